-- `writers::pieces::put_number_line` meets its contract: four pieces, one after the other.
use Rattle.std.proofs.Common.{append_assoc}
use Rattle.gfa_spec.specs.Bytes.{end_line}
use Rattle.writers.proofs.Writing.{as_piece, ◌▷◌}
use Rattle.writers.proofs.pieces.put_number_line.Goals as goal

pub returns : goal.returns
unfolding end_line
returns c = as_piece (simp append_assoc) (c.put.ensures ▷ c.put_byte.ensures ▷ c.put_decimal.ensures ▷ c.put_byte-2.ensures)
