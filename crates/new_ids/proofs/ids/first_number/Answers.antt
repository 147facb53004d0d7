use native.Mathlib.Omega.{arith}
use Rattle.new_ids.proofs.Largest.{growing_more}
use Rattle.new_ids.proofs.ids.first_number.Goals as goal

pub loop-i-preserved : goal.loop-i-preserved
loop-i-preserved c =
    growing_more c.loop-i.invariant c.loop-i-test.true c.segment.ensures (rw c.of.ensures at c.number_of.ensures) c.in_ok-value.was (omega arith) c.max-largest.ensures
