-- What the contracts of the report say.
pub mod Totals
