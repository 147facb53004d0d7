-- Laws for the proofs of the code.
pub mod Sanitizing
pub mod Likeness
pub mod Naming
