-- `targets::folded::mark_paths` meets its contract. The loop's invariant is its state at a path. Assumes nothing.
use Rattle.targets.specs.Markers.{SameMarks}
use Rattle.targets.proofs.FoldedMarks.{Visiting}
use Rattle.targets.proofs.folded.mark_paths.Given as goal

abbrev pub invariant-loop-p : goal.invariant-loop-p
invariant-loop-p l = let m = l.initial.marks in SameMarks m l.marks × Visiting m.text.now m.work.now l.marks.work.now m.b m.n m.base l.p
