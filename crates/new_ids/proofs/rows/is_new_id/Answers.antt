-- `new_ids::rows::is_new_id` meets its contract: a number, or a name.
use Rattle.new_ids.proofs.NewRows.{same_name}
use Rattle.new_ids.proofs.rows.is_new_id.Goals as goal

pub returns-in-None : goal.returns-in-None
returns-in-None c = search same_name
