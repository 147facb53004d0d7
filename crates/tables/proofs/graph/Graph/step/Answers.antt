-- `tables::graph::Graph::step` meets its contract. Assumes nothing.
use Rattle.tables.proofs.ByNumber.{step_told}
use Rattle.tables.proofs.graph.Graph.step.Goals as goal

pub returns : goal.returns
returns c = step_told c.args.self.now.readable c.args.i c.requires c.place_at.ensures c.orientation_at.ensures
