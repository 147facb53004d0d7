-- Laws for the proofs of the code.
pub mod NewRows
pub mod Finding
pub mod Largest
pub mod Kin
pub mod Suffixes
