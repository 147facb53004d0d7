-- What the contracts of new segments say.
pub mod Chains
pub mod Makes
