-- What the contracts of the links say.
pub mod LinkEnds
pub mod Relinkers
