-- Laws of the order, in reading order.
pub mod Sorting
pub mod Ranks
pub mod Merges
pub mod Numbering
