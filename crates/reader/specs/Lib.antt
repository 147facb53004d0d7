-- What the contracts of the reader say, and of every call.
pub mod Outcomes
pub mod Inputs
pub mod Served
