-- Laws of the node table, in reading order.
pub mod Paths
pub mod Counting
pub mod Pairs
pub mod Stored
pub mod Finding
pub mod Segments
