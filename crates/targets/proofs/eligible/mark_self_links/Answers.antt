use native.Mathlib.Omega.{arith}
use mathlib.Core.Path.{◌≡◌}
use Rattle.targets.proofs.Markers.{same_none, same_then}
use Rattle.targets.proofs.EligibleMarks.{linking_start, linking_more}
use Rattle.targets.proofs.eligible.mark_self_links.Goals as goal

pub loop-i-init : goal.loop-i-init
loop-i-init c = (same_none, linking_start c.args.marks.now.markable)

pub mark_link-requires : goal.mark_link-requires
mark_link-requires c = let s = c.loop-i.invariant.0 in rw s.counts c.loop-i-test.true

pub loop-i-preserved : goal.loop-i-preserved
loop-i-preserved c =
    let s = c.loop-i.invariant.0 in
    let e = c.mark_link.ensures in
    (same_then s e.same, linking_more c.loop-i.invariant.1 c.loop-i-test.true (rw (s.text, s.bases, s.counts, s.base) at e.adds))

pub returns : goal.returns
returns c = let e : c.loop-i.i ≡ c.args.marks.now.n.links = omega arith in record { same = c.loop-i.invariant.0; adds = rw e at c.loop-i.invariant.1.adds }
