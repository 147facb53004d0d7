-- What the contracts of the writers say.
pub mod Writers
pub mod Pieces
