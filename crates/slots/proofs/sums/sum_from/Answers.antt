use mathlib.Core.Path.{refl, sym, ◌∙◌}
use Rattle.gfa_spec.specs.Sums.{sum_from}
use Rattle.gfa_spec.proofs.Sums.{sum_next}
use Rattle.slots.proofs.sums.sum_from.Goals as goal

pub loop-b-init : goal.loop-b-init
unfolding sum_from
loop-b-init c = refl

pub loop-b-preserved : goal.loop-b-preserved
loop-b-preserved c = c.stepped-sum.ensures ∙ rw c.loop-b.invariant (sym (sum_next _ _ _ c.loop-b-test.true))
