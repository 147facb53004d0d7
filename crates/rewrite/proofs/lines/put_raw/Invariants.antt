-- `rewrite::lines::put_raw` writes the piece of each line. Assumes nothing.
use Rattle.writers.specs.Writers.{Puts, pieces_to}
use Rattle.rewrite.specs.Pieces.{raw_piece}
use Rattle.rewrite.proofs.lines.put_raw.Given as goal

abbrev pub invariant-loop-i : goal.invariant-loop-i
invariant-loop-i l = Puts l.initial.w (pieces_to (raw_piece l.class l.graph.text.now l.graph.work.now l.graph.b) l.i) l.w
