-- `new_names::names::new_name_sum` meets its contract: of two pieces.
use Rattle.new_names.proofs.Naming.{name_summed}
use Rattle.new_names.proofs.names.new_name_sum.Goals as goal

pub returns : goal.returns
returns c = name_summed _ _ _ c.sanitized_sum-front.ensures (rw c.tail_in.ensures at c.sum_from.ensures)
