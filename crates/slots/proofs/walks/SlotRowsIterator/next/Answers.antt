-- `next` of `slots::walks::SlotRows` meets its contract: the rows go back.
use native.Mathlib.Omega.{arith}
use Rattle.slots.proofs.Walking.{row_stands, before_fewer, before_backward}
use Rattle.slots.proofs.walks.SlotRowsIterator.next.Goals as goal

pub overflow_mul-self : goal.overflow_mul-self
overflow_mul-self c = let h = row_stands c.args.self.now.backward c.in_ok-k.was in omega arith

pub overflow_add-self : goal.overflow_add-self
overflow_add-self c = let h = row_stands c.args.self.now.backward c.in_ok-k.was in omega arith

pub number_at-self-requires : goal.number_at-self-requires
number_at-self-requires c = row_stands c.args.self.now.backward c.in_ok-k.was

pub invariant_of-self : goal.invariant_of-self
invariant_of-self c = record { backward = before_backward c.args.self.now.backward c.in_ok-k.was c.number_at-self.ensures }

pub returns-clause-goes : goal.returns-clause-goes
returns-clause-goes c =
    let fewer = before_fewer c.args.self.now.backward c.in_ok-k.was c.number_at-self.ensures in
    record { on = λ f. (tt, tt, fewer); keeps = tt; rests = λ f. tt }
