-- `steps::walks::read_walk` meets its contract, step by step. Assumes nothing.
use mathlib.Core.Path.{refl}
use Rattle.steps.proofs.Walking.{walking_last, walking_more}
use Rattle.steps.proofs.walks.read_walk.Goals as goal

pub loop-step-preserved : goal.loop-step-preserved
loop-step-preserved c =
    walking_more c.loop-step.invariant c.in-Some.ensures.steps c.if-step-eq0.false (record { text = refl; loan = refl; base = refl; field = refl }) c.put_step.ensures

pub returns-then-step-end : goal.returns-then-step-end
returns-then-step-end c = walking_last c.loop-step.invariant c.in-Some.ensures.steps c.if-step-eq0.true c.if-step-end.true
