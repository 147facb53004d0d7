-- What the contracts on the work area say.
pub mod Rows
