-- `report::totals::add_repeats` meets its contract. The loop's invariant is its state at the runs that are left. Assumes nothing.
use Rattle.report.proofs.Repeating.{Repeating}
use Rattle.report.proofs.totals.add_repeats.Given as goal

abbrev pub invariant-loop-run : goal.invariant-loop-run
invariant-loop-run l = Repeating l.graph.text.now l.graph.work.now l.graph.b l.fn.steps.first l.fn.steps.end l.initial.now l.now l.run-iterator
