-- `spelling::spelling::put_step` meets its contract: the two refusals, and the sequence. Assumes nothing.
use borrow.Author.Rules.{rules}
use mathlib.Core.Path.{ap, ◌∙◌}
use Rattle.gfa_spec.specs.Bytes.{same, star}
use Rattle.spelling.proofs.Spelled.{step_unknown, step_star, step_put}
use Rattle.spelling.proofs.spelling.put_step.Goals as goal

pub returns-in_default : goal.returns-in_default
returns-in_default c = step_unknown c.step-step.ensures c.sequence_of.ensures c.in_default.is c.refused.ensures

pub returns-then-is_star : goal.returns-then-is_star
returns-then-is_star c = step_star c.step-step.ensures c.sequence_of.ensures c.in-Some.is (c.is_star.ensures ∙ ap (λ s. same s star) c.of-sequence.ensures) c.if-is_star.true c.refused-then-is_star.ensures

pub returns : goal.returns
returns c =
    step_put c.step-step.ensures c.sequence_of.ensures c.in-Some.is (c.is_star.ensures ∙ ap (λ s. same s star) c.of-sequence.ensures) c.if-is_star.false
    (rw c.of-sequence.ensures at c.put_oriented.ensures) (search rules)
