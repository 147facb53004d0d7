-- `rewrite::lines::put_segments` writes the piece of each segment. Assumes nothing.
use Rattle.writers.specs.Writers.{Puts, pieces_to}
use Rattle.rewrite.specs.Pieces.{segment_piece}
use Rattle.rewrite.proofs.lines.put_segments.Given as goal

abbrev pub invariant-loop-i : goal.invariant-loop-i
invariant-loop-i l = Puts l.initial.w (pieces_to (segment_piece l.graph.text.now l.graph.work.now l.graph.b) l.i) l.w
