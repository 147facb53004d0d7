-- `node_lines::output::put_nodes` meets its contract. The loop's invariant is its state at a number. Assumes nothing.
use Rattle.node_lines.proofs.Listing.{Listing}
use Rattle.node_lines.proofs.output.put_nodes.Given as goal

abbrev pub invariant-loop-i : goal.invariant-loop-i
invariant-loop-i l = Listing l.graph.text.now l.graph.work.now l.graph.b l.graph.n l.nums l.initial.w l.w l.i
