-- `slots::walks::SlotRows::of` meets its contract.
use Rattle.slots.proofs.Walking.{all_backward}
use Rattle.slots.proofs.walks.SlotRows.of.Goals as goal

pub invariant_of-result : goal.invariant_of-result
invariant_of-result c = record { backward = all_backward c.requires c.number_at-last.ensures }
