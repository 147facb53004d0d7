-- The numbers of refusals.
pub mod Reasons
pub mod Refusals
