-- What the contracts of the marks say.
pub mod Marking
pub mod Markers
