-- `tables::graph::Graph::in_slot` meets its contract: the slots of a graph that was read may be walked. Assumes nothing.
use native.Mathlib.Omega.{arith}
use Rattle.tables.proofs.Finding.{find_begins}
use Rattle.tables.proofs.graph.Graph.in_slot.Goals as goal

pub in_slot-requires : goal.in_slot-requires
in_slot-requires c =
    let r = c.args.self.now.readable in
    record { room = omega (arith, r.laid); begins = find_begins r.sound.names r.laid.heads c.args.sum }
