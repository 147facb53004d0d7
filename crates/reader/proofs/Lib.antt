-- Laws of the reader.
pub mod Following
pub mod Tallying
pub mod Progress
pub mod BadBytes
pub mod Admitting
pub mod Serving
