use Rattle.link_ends.proofs.Relinkers.{same_none, same_then}
use Rattle.link_ends.proofs.Endings.{ending_start, ending_more, ending_end}
use Rattle.link_ends.proofs.ends.put_all_ends.Goals as goal

pub loop-i-init : goal.loop-i-init
loop-i-init c = (same_none, ending_start c.args.links.now.relinkable)

pub settle_ends-requires : goal.settle_ends-requires
settle_ends-requires c = rw c.loop-i.invariant.0.area c.loop-i-test.true

pub loop-i-preserved : goal.loop-i-preserved
loop-i-preserved c =
    let s = c.loop-i.invariant.0 in
    let e = c.settle_ends.ensures in
    (same_then s e.same, ending_more c.loop-i.invariant.1 c.loop-i-test.true (rw (s.text, s.area) at e.settled) c.from-removed.ensures)

pub returns : goal.returns
returns c = record { same = c.loop-i.invariant.0; all = ending_end c.loop-i.invariant.1 c.loop-i-test.false }
