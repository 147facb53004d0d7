-- Laws for the proofs of the code.
pub mod StepFields
pub mod PathLines
