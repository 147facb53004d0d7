-- What the contracts on fields of steps say.
pub mod StepFields
pub mod FieldSteps
pub mod WalkSteps
