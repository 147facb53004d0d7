-- `targets::folded::keep_eligible` meets its contract. The loop's invariant is its state at a segment. Assumes nothing.
use Rattle.targets.proofs.FoldedMarks.{Keeping}
use Rattle.targets.proofs.folded.keep_eligible.Given as goal

abbrev pub invariant-loop-i : goal.invariant-loop-i
invariant-loop-i l = Keeping l.initial.work l.work l.g l.count l.i l.total
