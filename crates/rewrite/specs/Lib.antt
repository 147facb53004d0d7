-- What the contracts of the rewritten text say.
pub mod Pieces
pub mod Rewriting
