-- `relink::lookup::Sought::added_link` meets its contract. The loop's invariant is its state at an added link. Assumes nothing.
use Rattle.relink.proofs.Lookups.{Comparing}
use Rattle.relink.proofs.lookup.Sought.added_link.Given as goal

abbrev pub invariant-loop-i : goal.invariant-loop-i
invariant-loop-i l = let graph = l.self.graph in Comparing graph.work.now graph.a.n graph.a.g graph.a.m l.added l.self.pair l.i
