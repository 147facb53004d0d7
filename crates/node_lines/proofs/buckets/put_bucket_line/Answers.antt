-- `node_lines::buckets::put_bucket_line` meets its contract: the word, three numbers with commas between, and the line's end. Assumes nothing.
use mathlib.Core.List.{append_assoc}
use Rattle.gfa_spec.specs.Bytes.{bytes, join_with, end_line}
use Rattle.report_spec.specs.Lines.{line}
use Rattle.node_lines.specs.Groups.{bucket_of}
use Rattle.writers.proofs.Writing.{as_piece, ◌▷◌}
use Rattle.node_lines.proofs.buckets.put_bucket_line.Goals as goal

pub returns : goal.returns
unfolding bucket_of line join_with end_line bytes
returns c =
    as_piece (simp append_assoc)
    (c.put.ensures
    ▷ c.put_decimal.ensures
    ▷ c.put_byte.ensures
    ▷ c.put_decimal-2.ensures
    ▷ c.put_byte-2.ensures
    ▷ c.put_decimal-3.ensures
    ▷ c.put_byte-3.ensures)
