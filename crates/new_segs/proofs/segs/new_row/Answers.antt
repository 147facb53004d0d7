-- `new_segs::segs::new_row` meets its contract: there is room for the row, and its words fit.
use Rattle.new_segs.proofs.Adding.{row_for}
use Rattle.new_segs.proofs.segs.new_row.Goals as goal

pub returns : goal.returns
returns c = row_for c.requires c.new_suffix.ensures
