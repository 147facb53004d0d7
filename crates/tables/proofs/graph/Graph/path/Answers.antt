-- `tables::graph::Graph::path` meets its contract. Assumes nothing.
use mathlib.Core.Path.{refl}
use Rattle.tables.proofs.ByNumber.{path_is}
use Rattle.tables.proofs.graph.Graph.path.Goals as goal

pub returns : goal.returns
returns c =
    path_is c.args.self.now.readable c.args.p.0 c.requires c.word-first.ensures c.word-count.ensures refl c.word.ensures c.of.ensures c.place_at.ensures
