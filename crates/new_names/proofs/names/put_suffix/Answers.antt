-- `new_names::names::put_suffix` meets its contract: by the suffix.
use Rattle.new_names.proofs.Naming.{suffix_none, suffix_some}
use Rattle.writers.proofs.Writing.{as_piece, puts_nothing, ◌▷◌}
use Rattle.new_names.proofs.names.put_suffix.Goals as goal

pub returns-else-suffix-ne0 : goal.returns-else-suffix-ne0
returns-else-suffix-ne0 c = as_piece (suffix_none _ c.if-suffix-ne0.false) puts_nothing

pub returns-then-suffix-ne0 : goal.returns-then-suffix-ne0
returns-then-suffix-ne0 c = as_piece (suffix_some _ c.if-suffix-ne0.true) (c.put_byte.ensures ▷ c.put_decimal.ensures)
