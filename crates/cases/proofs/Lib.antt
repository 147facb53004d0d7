-- Laws for the proofs of the code.
pub mod Comparing
