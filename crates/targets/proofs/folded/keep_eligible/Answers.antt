use mathlib.Core.Path.{◌∙◌}
use Rattle.targets.proofs.FoldedMarks.{keeping_start, keeping_more}
use Rattle.targets.proofs.folded.keep_eligible.Goals as goal
use Rattle.targets.proofs.folded.keep_eligible.Goals.{then-is_marked, else-is_marked}

pub loop-i-init : goal.loop-i-init
loop-i-init c = search keeping_start

pub loop-i-preserved : goal.loop-i-preserved
loop-i-preserved c =
    let marked = c.is_marked.ensures in
    keeping_more c.loop-i.invariant c.loop-i-test.true
    (elim c.if-is_marked.branch [ then-is_marked w ↦ rw (← marked, w.if-is_marked.true) (w.stays-is ∙ w.is_marked-stays.ensures) | else-is_marked w ↦ rw (← marked, w.if-is_marked.false) (w.stays-is ∙ w.if-is_marked.false) ])
    c.from.ensures
    c.from-total.ensures
