-- `steps::walks::find_mark` meets its contract. The loop's invariant is the search's state. Assumes nothing.
use Rattle.steps.proofs.Marks.{Marking}
use Rattle.steps.proofs.walks.find_mark.Given as goal

abbrev pub invariant-loop-i : goal.invariant-loop-i
invariant-loop-i l = Marking l.text l.from l.to l.i
