-- What the contracts on a line say.
pub mod Sorts
pub mod Columns
pub mod SegmentLines
pub mod LinkLines
pub mod PathLines
pub mod Room
pub mod Lines
pub mod NewLines
