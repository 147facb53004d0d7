-- `new_names::names::tail_in` meets its contract: what stands behind the unit's name stands at the front of the buffer.
use Rattle.std.proofs.Common.{refl, rules, arith}
use Rattle.new_names.proofs.Naming.{tail_is}
use Rattle.new_names.proofs.names.tail_in.Goals as goal

pub returns : goal.returns
returns c = tail_is c.new-w.ensures.starts (search rules) refl (omega arith) (omega arith) (omega arith) c.put_tail.ensures
