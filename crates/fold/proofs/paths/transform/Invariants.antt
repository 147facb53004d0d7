-- `fold::paths::transform` meets its contract. The loop's invariant: the paths before path p are transformed.
use Rattle.fold.proofs.Passing.{Passing}
use Rattle.fold.proofs.paths.transform.Given as goal

abbrev pub invariant-loop-p : goal.invariant-loop-p
invariant-loop-p l = Passing l.text l.initial.work l.work l.b l.n l.g l.m l.p
