-- `steps::walks::read_walk` meets its contract. The loop's invariant is the state between two steps. Assumes nothing.
use Rattle.steps.proofs.Walking.{Walking}
use Rattle.steps.proofs.walks.read_walk.Given as goal

abbrev pub invariant-loop-step : goal.invariant-loop-step
invariant-loop-step l = Walking l.initial.f l.f l.step-iterator l.n
