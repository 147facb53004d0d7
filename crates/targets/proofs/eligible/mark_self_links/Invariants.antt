-- `targets::eligible::mark_self_links` meets its contract. The loop's invariant is its state at a link. Assumes nothing.
use Rattle.targets.specs.Markers.{SameMarks}
use Rattle.targets.proofs.EligibleMarks.{Linking}
use Rattle.targets.proofs.eligible.mark_self_links.Given as goal

abbrev pub invariant-loop-i : goal.invariant-loop-i
invariant-loop-i l = let m = l.initial.marks in SameMarks m l.marks × Linking m.text.now m.work.now l.marks.work.now m.b m.n m.base l.i
