-- Laws of the spelling.
pub mod Spelled
