-- Laws of the nodes' lines, in reading order.
pub mod Pieces
pub mod Listing
pub mod Lengths
pub mod Grouping
