-- `runs::counts::all_pairs` meets its contract. The loop's invariant: the sums so far, and those of the paths that are left. Assumes nothing.
use Prim.Native.Nat.{◌*◌, ◌≤◌}
use Rattle.gfa_spec.specs.Runs.{pairs, same_node, same_step}
use Rattle.runs.proofs.Totals.{Summed}
use Rattle.runs.proofs.counts.all_pairs.Given as goal

abbrev pub invariant-loop-i : goal.invariant-loop-i
invariant-loop-i l = (l.i ≤ l.graph.n.paths) × (l.nodes ≤ 2097152 * l.i) × (l.steps ≤ 2097152 * l.i) × Summed (pairs same_node) l.graph.text.now l.graph.work.now l.graph.b l.graph.n l.i l.nodes × Summed (pairs same_step) l.graph.text.now l.graph.work.now l.graph.b l.graph.n l.i l.steps
