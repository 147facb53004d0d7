-- `runs::counts::count_pairs` meets its contract. The loop's invariant: the pairs counted, and those of the steps that are left. Assumes nothing.
use Rattle.runs.proofs.Totals.{Pairing}
use Rattle.runs.proofs.counts.count_pairs.Given as goal

abbrev pub invariant-loop-j : goal.invariant-loop-j
invariant-loop-j l = Pairing l.graph.text.now l.graph.work.now l.graph.b l.fn.among.first l.fn.among.end l.j l.nodes l.steps
