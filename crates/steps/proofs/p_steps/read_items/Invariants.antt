-- `steps::p_steps::read_items` meets its contract. The loop's invariant is the state between two items. Assumes nothing.
use Rattle.steps.proofs.Stepping.{Stepping}
use Rattle.steps.proofs.p_steps.read_items.Given as goal

abbrev pub invariant-loop-item : goal.invariant-loop-item
invariant-loop-item l = Stepping l.initial.f l.f l.item-iterator l.n
