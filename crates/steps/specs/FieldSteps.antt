-- What the reader does with a field of steps. Document 01, "Reading", and the refusals 13 and 15 to 17.
use Rattle.std.specs.Prelude.{ℕ, List, ◌≡◌, Result}
use Rattle.refusals.specs.declared.reason.Reason.{Reason}
use Rattle.gfa_spec.specs.Reading.{Step, Read}
use Rattle.steps.specs.declared.step_field.StepField.{StepField}
use Rattle.steps.specs.StepFields.{StepsIs}

-- The field, and the place of its steps in the table, are the same.
pub record SameField (old new : StepField) : Type 0 where
  pub text : new.text ≡ old.text
  pub loan : new.work.ghost_name ≡ old.work.ghost_name
  pub base : new.base ≡ old.base
  pub field : new.field ≡ old.field

-- The steps of the field are put into the table, or refused; r is what the definitions read there.
pub record PutsSteps (old : StepField) (r : Read (List Step)) (a : Result ℕ Reason) (new : StepField) : Type 0 where
  pub same : SameField old new
  pub steps : StepsIs old.text.now old.work.now new.work.now old.base old.field.size r a
