-- What the contracts of the links say.
pub mod Relinking
pub mod Sought
pub mod Adders
