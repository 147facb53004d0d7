-- What the contracts of the spelling say.
pub mod Spelled
