use Rattle.new_ids.proofs.Kin.{tried_more, tried_end}
use Rattle.new_ids.proofs.ids.free_suffix.Goals as goal

pub returns-then-not-is_taken : goal.returns-then-not-is_taken
returns-then-not-is_taken c =
    let (here, on) = c.in-Some.ensures.steps in
    tried_end (rw (← here) at c.loop-suffix.invariant) c.segment_id-id.ensures c.is_taken.ensures c.if-not-is_taken.true

pub loop-suffix-preserved : goal.loop-suffix-preserved
loop-suffix-preserved c =
    let (here, on) = c.in-Some.ensures.steps in
    rw on (tried_more (rw (← here) at c.loop-suffix.invariant) c.is_taken.ensures c.if-not-is_taken.false)
