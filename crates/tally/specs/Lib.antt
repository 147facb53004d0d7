-- What the contracts of the two passes say.
pub mod Tabled
pub mod Visits
pub mod Countings
