-- `new_names::names::put_tail` meets its contract: three pieces.
use Rattle.gfa_spec.specs.Bytes.{bytes}
use Rattle.new_names.proofs.Naming.{tail_pieces}
use Rattle.writers.proofs.Writing.{as_piece, ◌▷◌}
use Rattle.new_names.proofs.names.put_tail.Goals as goal

pub returns : goal.returns
unfolding bytes
returns c = as_piece (tail_pieces _ _) (c.put.ensures ▷ c.put_decimal.ensures ▷ c.put_suffix.ensures)
