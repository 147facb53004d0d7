-- `normalize_tables::rows::joins_at` meets its contract: where the first word is that of the node, the second decides. Assumes nothing.
use Prim.Native.Nat.{◌+◌}
use borrow.Author.Tests.{eq-eqb}
use Rattle.normalize_tables.proofs.Words.{joined_told}
use Rattle.normalize_tables.proofs.rows.joins_at.Goals as goal

pub returns-then-work-at : goal.returns-then-work-at
returns-then-work-at c =
    rw (eq-eqb _ (c.args.from + 1) c.if-work-at.true) at (joined_told c.args.work.now c.args.a.g c.args.i.0 c.args.from c.args.to)
