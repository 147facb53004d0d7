-- `reader::counting::count_line` meets its contract. Assumes nothing.
use Rattle.reader.proofs.Tallying.{tally_short, tally_segment, tally_link, tally_path, tally_none}
use Rattle.reader.proofs.counting.count_line.Goals as goal

pub returns-then-line-lt2 : goal.returns-then-line-lt2
returns-then-line-lt2 c = search tally_short

pub returns-in-83 : goal.returns-in-83
returns-in-83 c = search tally_segment

pub returns-in-76 : goal.returns-in-76
returns-in-76 c = search tally_link

pub returns-in-80 : goal.returns-in-80
returns-in-80 c = search tally_path

pub returns-in_default : goal.returns-in_default
returns-in_default c = search tally_none
