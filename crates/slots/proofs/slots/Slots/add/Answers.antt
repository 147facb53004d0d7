-- `slots::slots::Slots::add` meets its contract.
use Rattle.slots.proofs.Slotting.{row_added}
use Rattle.slots.proofs.slots.Slots.add.Goals as goal

pub returns : goal.returns
returns c = row_added c.requires
