-- `report::totals::order_both` meets its contract: by length, then by rank. Assumes nothing.
use Rattle.report.proofs.Ordering.{ordered_both}
use Rattle.report.proofs.totals.order_both.Goals as goal

pub returns : goal.returns
returns c = search ordered_both
