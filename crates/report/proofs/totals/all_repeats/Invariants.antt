-- `report::totals::all_repeats` meets its contract. The loop's invariant is its state at a path. Assumes nothing.
use Rattle.report.proofs.Repeating.{Totalling}
use Rattle.report.proofs.totals.all_repeats.Given as goal

abbrev pub invariant-loop-p : goal.invariant-loop-p
invariant-loop-p l = Totalling l.graph.text.now l.graph.work.now l.graph.b l.t l.p
