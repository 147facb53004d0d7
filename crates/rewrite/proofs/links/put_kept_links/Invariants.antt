-- `rewrite::links::put_kept_links` writes the piece of each link. Assumes nothing.
use Rattle.writers.specs.Writers.{Puts, pieces_to}
use Rattle.rewrite.specs.Pieces.{kept_piece}
use Rattle.rewrite.proofs.links.put_kept_links.Given as goal

abbrev pub invariant-loop-i : goal.invariant-loop-i
invariant-loop-i l = Puts l.initial.w (pieces_to (kept_piece l.graph.text.now l.graph.work.now l.graph.a.b l.graph.a.g) l.i) l.w
