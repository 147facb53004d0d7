-- `new_segs::segs::new_suffix` meets its contract: a number needs no suffix.
use Rattle.new_segs.proofs.NextIds.{suffix_number}
use Rattle.new_segs.proofs.segs.new_suffix.Goals as goal

pub returns-in-Some : goal.returns-in-Some
returns-in-Some c = search suffix_number
