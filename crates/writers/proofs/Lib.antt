-- Laws for the proofs of the writers.
pub mod Writing
pub mod Joining
pub mod Digits
pub mod Rowing
pub mod NumberLines
