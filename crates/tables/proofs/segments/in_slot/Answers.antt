-- `tables::segments::in_slot` meets its contract. Assumes nothing.
use Rattle.tables.proofs.segments.in_slot.Goals as goal

pub of-requires : goal.of-requires
of-requires c = rw (c.slot_of-slot.ensures.is, c.slots_of-slots.ensures) c.requires.begins

pub returns : goal.returns
returns c = record { rows = rw (c.slot_of-slot.ensures.is, c.slots_of-slots.ensures) at c.of.ensures }
