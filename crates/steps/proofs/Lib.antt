-- Laws of fields of steps.
pub mod FieldSteps
pub mod Items
pub mod Stepping
pub mod Marks
pub mod Walking
pub mod StepFields
