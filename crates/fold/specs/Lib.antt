-- What the contracts on new paths say.
pub mod Pairings
pub mod Turns
pub mod Foldings
pub mod Transforms
