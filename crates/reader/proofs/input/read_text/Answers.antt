-- `reader::input::read_text` meets its contract. Assumes nothing.
use Rattle.reader.proofs.Tallying.{tally_few, tally_clearable, tally_roomy}
use Rattle.reader.proofs.input.read_text.Goals as goal

pub bases_of-b-requires : goal.bases_of-b-requires
bases_of-b-requires c = tally_few _ c.count_text.ensures c.requires.0

pub clear_names-requires : goal.clear_names-requires
clear_names-requires c = tally_clearable _ c.count_text.ensures c.requires.0 _ c.bases_of-b.ensures c.requires.1

pub read_lines-requires : goal.read_lines-requires
read_lines-requires c = tally_roomy _ c.count_text.ensures c.requires.0 _ c.bases_of-b.ensures c.requires.1 c.clear_names.ensures
