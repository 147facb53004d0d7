-- What the contracts of the path lines say.
pub mod PathPieces
