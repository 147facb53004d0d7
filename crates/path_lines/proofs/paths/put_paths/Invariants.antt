-- `path_lines::paths::put_paths` writes the piece of each path. Assumes nothing.
use Rattle.writers.specs.Writers.{Puts, pieces_to}
use Rattle.path_lines.specs.PathPieces.{nodes, path_piece}
use Rattle.path_lines.proofs.paths.put_paths.Given as goal

abbrev pub invariant-loop-p : goal.invariant-loop-p
invariant-loop-p l = Puts l.initial.w (pieces_to (path_piece (nodes l.graph.text.now l.graph.work.now l.graph.a.b l.graph.a.n l.graph.a.g l.graph.a.m) l.graph.text.now l.graph.work.now l.graph.a.b l.graph.a.g) l.p) l.w
