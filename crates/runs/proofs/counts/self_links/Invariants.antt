-- `runs::counts::self_links` meets its contract. The loop's invariant: the links counted so far. Assumes nothing.
use Prim.Native.Nat.{◌≤◌}
use Rattle.runs.proofs.Totals.{Tallied}
use Rattle.runs.proofs.counts.self_links.Given as goal

abbrev pub invariant-loop-i : goal.invariant-loop-i
invariant-loop-i l = (l.i ≤ l.graph.n.links) × Tallied l.graph.text.now l.graph.work.now l.graph.b l.i l.total
