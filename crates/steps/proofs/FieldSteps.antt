-- A field of steps, and the place of its steps in the table, which stay the same. Assumes nothing.
use mathlib.Core.Path.{refl, ◌∙◌}
use Rattle.steps.specs.declared.step_field.StepField.{StepField}
use Rattle.steps.specs.FieldSteps.{SameField}

pub same_none : {f : StepField} → SameField f f
same_none = record { text = refl; loan = refl; base = refl; field = refl }

pub same_then : {a b c : StepField} → SameField a b → SameField b c → SameField a c
same_then s t = record { text = t.text ∙ s.text; loan = t.loan ∙ s.loan; base = t.base ∙ s.base; field = t.field ∙ s.field }
