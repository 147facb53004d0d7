-- `relink::lookup::Sought::kept_link` meets its contract. The loop's invariant is its state at a link. Assumes nothing.
use Rattle.relink.proofs.Lookups.{Seeking}
use Rattle.relink.proofs.lookup.Sought.kept_link.Given as goal

abbrev pub invariant-loop-i : goal.invariant-loop-i
invariant-loop-i l = let graph = l.self.graph in Seeking graph.text.now graph.work.now graph.a.b graph.a.n graph.a.g graph.a.m l.self.pair l.i
