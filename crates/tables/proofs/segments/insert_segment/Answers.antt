-- `tables::segments::insert_segment` meets its contract. Assumes nothing.
use Rattle.tables.proofs.NamesSlotted.{insert_room, inserted}
use Rattle.tables.proofs.segments.insert_segment.Goals as goal

pub add-requires : goal.add-requires
add-requires c =
    rw c.slots_of-slots.ensures (insert_room c.requires c.put_segment.ensures (rw (c.name_sum.ensures, c.of.ensures, c.slots_of-slots.ensures) at c.slot_of-slot.ensures))

pub returns : goal.returns
returns c =
    inserted c.requires c.put_segment.ensures (rw (c.name_sum.ensures, c.of.ensures, c.slots_of-slots.ensures) at c.slot_of-slot.ensures)
    (rw c.slots_of-slots.ensures at c.add.ensures)
