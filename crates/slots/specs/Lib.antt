-- What the contracts of slots say.
pub mod Slots
pub mod RowsLeft
