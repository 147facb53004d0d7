-- `targets::folded::mark_path` meets its contract. The loop's invariant is its state at a step. Assumes nothing.
use Prim.Native.Nat.{◌-◌}
use Rattle.targets.specs.Markers.{SameMarks}
use Rattle.targets.proofs.FoldedMarks.{Marking}
use Rattle.targets.proofs.folded.mark_path.Given as goal

abbrev pub invariant-loop-i : goal.invariant-loop-i
invariant-loop-i l = let m = l.initial.marks in SameMarks m l.marks × Marking m.text.now m.work.now l.marks.work.now m.b m.n m.base l.fn.steps.first l.fn.steps.end l.i

abbrev pub decreases-loop-i : goal.decreases-loop-i
decreases-loop-i l = l.fn.steps.end - l.i
