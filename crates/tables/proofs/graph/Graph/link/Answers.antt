-- `tables::graph::Graph::link` meets its contract. Assumes nothing.
use Rattle.tables.proofs.ByNumber.{link_is}
use Rattle.tables.proofs.graph.Graph.link.Goals as goal

pub returns : goal.returns
returns c =
    link_is c.args.self.now.readable c.args.i.0 c.requires
    c.place_at.ensures c.place_at-2.ensures c.orientation_at.ensures c.place_at-3.ensures c.orientation_at-2.ensures
