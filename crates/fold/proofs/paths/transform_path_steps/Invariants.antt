-- `fold::paths::transform_path_steps` meets its contract. The loop's invariant: the runs before step i are turned.
use Prim.Native.Nat.{◌-◌}
use Rattle.fold.specs.Foldings.{SamePaths}
use Rattle.fold.proofs.Running.{Running}
use Rattle.fold.proofs.paths.transform_path_steps.Given as goal

abbrev pub invariant-loop-i : goal.invariant-loop-i
invariant-loop-i l =
    let r = l.initial.paths in SamePaths r l.paths × Running r.text.now r.work.now l.paths.work.now r.a.b r.a.n r.a.g r.a.m l.paths.a.m l.fn.steps.first l.fn.steps.end l.i

abbrev pub decreases-loop-i : goal.decreases-loop-i
decreases-loop-i l = l.fn.steps.end - l.i
