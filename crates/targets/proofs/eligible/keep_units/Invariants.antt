-- `targets::eligible::keep_units` meets its contract. The loop's invariant is its state at a segment. Assumes nothing.
use Rattle.targets.specs.Markers.{SameMarks}
use Rattle.targets.proofs.EligibleMarks.{Leaving}
use Rattle.targets.proofs.eligible.keep_units.Given as goal

abbrev pub invariant-loop-i : goal.invariant-loop-i
invariant-loop-i l = let m = l.initial.marks in SameMarks m l.marks × Leaving l.cap m.text.now m.work.now l.marks.work.now m.b m.n m.base l.i
