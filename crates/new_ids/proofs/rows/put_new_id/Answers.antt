-- `new_ids::rows::put_new_id` meets its contract: a number, or a name.
use Rattle.new_ids.proofs.NewRows.{puts_number, puts_name}
use Rattle.new_ids.proofs.rows.put_new_id.Goals as goal

pub returns-in-Some : goal.returns-in-Some
returns-in-Some c = search puts_number

pub returns-in-None : goal.returns-in-None
returns-in-None c = search puts_name
