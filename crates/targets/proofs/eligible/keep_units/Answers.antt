use mathlib.Core.Path.{◌∙◌}
use Rattle.targets.proofs.Adding.{markable_put}
use Rattle.targets.proofs.Markers.{same_none, segment_in}
use Rattle.targets.proofs.EligibleMarks.{leaving_start, leaving_more, leaving_end}
use Rattle.targets.proofs.eligible.keep_units.Goals as goal
use Rattle.targets.proofs.eligible.keep_units.Goals.{then-is_marked, else-is_marked}

pub loop-i-init : goal.loop-i-init
loop-i-init c = (same_none, leaving_start c.args.marks.now.markable)

pub invariant_of-marks : goal.invariant_of-marks
invariant_of-marks c = record { markable = markable_put _ c.loop-i.marks.markable (rw c.loop-i.invariant.0.counts c.loop-i-test.true) }

pub loop-i-preserved : goal.loop-i-preserved
loop-i-preserved c =
    let s = c.loop-i.invariant.0 in
    let g = c.graph-graph.ensures in
    let marked = rw (g.work, s.base) at c.is_marked.ensures in
    let is = rw (s.text, s.bases) at (segment_in g c.segment-s.ensures) in (
      record { text = s.text; loan = s.loan; bases = s.bases; counts = s.counts; base = s.base },
      rw s.base
          (leaving_more c.loop-i.invariant.1 c.loop-i-test.true is
          (elim c.if-is_marked.branch [ then-is_marked w ↦ rw (← marked, w.if-is_marked.true, ← rw (g.text, s.text) at w.of.ensures) (w.stays-is ∙ w.is_unit-stays.ensures) | else-is_marked w ↦ rw (← marked, w.if-is_marked.false) (w.stays-is ∙ w.if-is_marked.false) ])
          c.from.ensures),
    )

pub returns : goal.returns
returns c = record { same = c.loop-i.invariant.0; kept = leaving_end c.loop-i.invariant.1 c.loop-i-test.false }
