-- `rewrite::links::put_added_links` writes the piece of each added link. Assumes nothing.
use Rattle.writers.specs.Writers.{Puts, pieces_to}
use Rattle.path_lines.specs.PathPieces.{nodes}
use Rattle.rewrite.specs.Pieces.{added_piece}
use Rattle.rewrite.proofs.links.put_added_links.Given as goal

abbrev pub invariant-loop-i : goal.invariant-loop-i
invariant-loop-i l =
    let graph = l.settled.graph in Puts l.initial.w (pieces_to (added_piece (nodes graph.text.now graph.work.now graph.a.b graph.a.n graph.a.g graph.a.m) graph.work.now graph.a.g) l.i) l.w
