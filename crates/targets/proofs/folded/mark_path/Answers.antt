use Rattle.targets.proofs.Markers.{same_none, same_then}
use Rattle.targets.proofs.FoldedMarks.{marking_start, marking_more, marking_end}
use Rattle.targets.proofs.folded.mark_path.Goals as goal

pub loop-i-init : goal.loop-i-init
loop-i-init c = (same_none, marking_start (c.args.marks.now.markable, c.args.steps.ordered, c.requires))

pub loop-i-preserved : goal.loop-i-preserved
loop-i-preserved c =
    let s = c.loop-i.invariant.0 in
    let e = c.mark_next-i.ensures in
    (same_then s e.same, marking_more c.loop-i.invariant.1 c.loop-i-test.true (rw (s.text, s.bases, s.counts, s.base) at e.adds))

pub returns : goal.returns
returns c = record { same = c.loop-i.invariant.0; adds = marking_end c.loop-i.invariant.1 c.loop-i-test.false }
