-- `new_names::sanitized::same_sanitized` meets its contract. The loop's invariant is the state of the comparison. Assumes nothing.
use Rattle.new_names.proofs.Likeness.{Alike}
use Rattle.new_names.proofs.sanitized.same_sanitized.Given as goal

abbrev pub invariant-loop-i : goal.invariant-loop-i
invariant-loop-i l = Alike l.s l.t l.end

abbrev pub decreases-loop-i : goal.decreases-loop-i
decreases-loop-i l = l.end
