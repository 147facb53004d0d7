-- `runs::runs::run_from` meets its contract. The loop's invariant: the steps passed are equal to step i. Assumes nothing.
use Rattle.runs.proofs.RunEnds.{Equal}
use Rattle.runs.proofs.runs.run_from.Given as goal

abbrev pub invariant-loop-j : goal.invariant-loop-j
invariant-loop-j l = Equal l.graph.text.now l.graph.work.now l.graph.b l.i l.end l.j
