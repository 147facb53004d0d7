-- What the contracts of the order say.
pub mod Sorting
pub mod Ranking
