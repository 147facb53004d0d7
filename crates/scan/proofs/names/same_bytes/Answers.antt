-- `scan::names::same_bytes` meets its contract: by the lengths, and by the last difference. Assumes nothing.
use Rattle.std.proofs.Common.{sym}
use borrow.Author.Tests.{ne_eqb}
use Rattle.gfa_spec.proofs.Comparing.{same_length}
use Rattle.scan.proofs.SameNames.{same_where_none}
use Rattle.scan.proofs.names.same_bytes.Goals as goal

pub returns-then-s-t : goal.returns-then-s-t
returns-then-s-t c = same_where_none c.last_difference.ensures c.is_none.ensures

pub returns-else-s-t : goal.returns-else-s-t
returns-else-s-t c = rw (ne_eqb _ _ c.if-s-t.false) (sym (same_length _ _ c.if-s-t.false))
