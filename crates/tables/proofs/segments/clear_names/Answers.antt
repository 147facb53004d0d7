-- `tables::segments::clear_names` meets its contract. Assumes nothing.
use Rattle.tables.proofs.NamesSlotted.{names_cleared}
use Rattle.tables.proofs.segments.clear_names.Goals as goal

pub returns : goal.returns
returns c = names_cleared c.requires.1 (rw c.slots_of.ensures at c.clear.ensures)
