-- `fold::turns::put_steps` meets its contract. The loop's invariant: the first rows are put.
use Rattle.fold.proofs.Putting.{Putting}
use Rattle.fold.proofs.turns.put_steps.Given as goal

abbrev pub invariant-loop-i : goal.invariant-loop-i
invariant-loop-i l = Putting l.initial.work l.work l.g l.k l.r l.count l.i
