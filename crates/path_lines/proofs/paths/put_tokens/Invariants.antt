-- `path_lines::paths::put_tokens` writes the piece of each step. Assumes nothing.
use Rattle.tables.specs.Paths.{kind_in}
use Rattle.writers.specs.Writers.{Puts, pieces_to}
use Rattle.path_lines.specs.PathPieces.{nodes, token_piece}
use Rattle.path_lines.proofs.paths.put_tokens.Given as goal

abbrev pub invariant-loop-k : goal.invariant-loop-k
invariant-loop-k l =
    Puts l.initial.w (pieces_to (token_piece (kind_in l.kind) (nodes l.graph.text.now l.graph.work.now l.graph.a.b l.graph.a.n l.graph.a.g l.graph.a.m) l.graph.work.now l.graph.a.g l.fn.steps.first) l.k) l.w
