-- `slots::slots::Slots::clear` meets its contract.
use Rattle.slots.proofs.Slotting.{slots_cleared}
use Rattle.slots.proofs.slots.Slots.clear.Goals as goal

pub returns : goal.returns
returns c = slots_cleared c.requires c.clear_words.ensures
