-- What the contracts on IDs say.
pub mod Ids
