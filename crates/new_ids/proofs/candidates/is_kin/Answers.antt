-- `new_ids::candidates::is_kin` meets its contract: it has a name, and its row is compared.
use Rattle.new_ids.proofs.Kin.{kin_other, kin_same}
use Rattle.new_ids.proofs.candidates.is_kin.Goals as goal

pub returns-then-row-count : goal.returns-then-row-count
returns-then-row-count c = search kin_same

pub returns-else-row-count : goal.returns-else-row-count
returns-else-row-count c = search kin_other
