use Rattle.new_segs.proofs.Chaining.{left_start, left_row, left_more}
use Rattle.new_segs.proofs.chains.made_for.Goals as goal

pub loop-j-init : goal.loop-j-init
loop-j-init c = left_start c.requires (rw c.unit_slots-slots.ensures at c.of-j-items.ensures) c.into_iter-j-iterator.ensures.into_iter_gives

pub new_segment-requires : goal.new_segment-requires
new_segment-requires c = left_row c.loop-j.invariant c.in-Some.ensures.steps

pub loop-j-preserved : goal.loop-j-preserved
loop-j-preserved c = left_more c.loop-j.invariant c.in-Some.ensures.steps c.new_segment.ensures c.if-new_segment-run.false
