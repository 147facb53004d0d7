-- `node_lines::output::put_pairs` meets its contract: the word, the four pieces, and the line's end. Assumes nothing.
use mathlib.Core.List.{append_assoc}
use Rattle.gfa_spec.specs.Bytes.{bytes, end_line}
use Rattle.report_spec.specs.Lines.{line}
use Rattle.node_lines.proofs.Pieces.{pairs_pieces}
use Rattle.writers.proofs.Writing.{as_piece, ◌▷◌}
use Rattle.node_lines.proofs.output.put_pairs.Goals as goal

pub returns : goal.returns
unfolding end_line line bytes
returns c =
    as_piece (rw (pairs_pieces _ c.requires) (simp append_assoc))
    (c.put.ensures
    ▷ c.put_pair.ensures
    ▷ c.put_pair-2.ensures
    ▷ c.put_pair-3.ensures
    ▷ c.put_pair-4.ensures
    ▷ c.put_byte.ensures)
