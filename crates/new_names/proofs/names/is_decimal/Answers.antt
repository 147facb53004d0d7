-- `new_names::names::is_decimal` meets its contract: the number stands at the front of the buffer.
use Rattle.std.proofs.Common.{refl, rules, arith}
use Rattle.new_names.proofs.Naming.{same_number}
use Rattle.new_names.proofs.names.is_decimal.Goals as goal

pub returns : goal.returns
returns c = same_number c.new-w.ensures.starts refl (search rules) _ c.same_bytes.ensures (omega arith) (omega arith) c.put_decimal.ensures
