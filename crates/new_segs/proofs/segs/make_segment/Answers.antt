-- `new_segs::segs::make_segment` meets its contract: the row is put, and into the slot of its unit.
use Rattle.new_segs.proofs.Adding.{add_room, segment_made}
use Rattle.new_segs.proofs.segs.make_segment.Goals as goal

pub add-requires : goal.add-requires
add-requires c = rw c.unit_slots-slots.ensures (add_room c.requires c.new_row-row.ensures c.put_new_segment.ensures)

pub returns : goal.returns
returns c = segment_made c.requires c.new_row-row.ensures c.put_new_segment.ensures (rw c.unit_slots-slots.ensures at c.add.ensures)
