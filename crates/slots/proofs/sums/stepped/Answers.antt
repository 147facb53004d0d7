-- `slots::sums::stepped` meets its contract: twice modulo 2^32 is once.
use native.Mathlib.Nat.{mod-add-mod}
use Rattle.gfa_spec.specs.Sums.{stepped}
use Rattle.slots.proofs.sums.stepped.Goals as goal

pub returns : goal.returns
unfolding stepped
returns c = rw c.times_33.ensures (mod-add-mod _ _ _)
