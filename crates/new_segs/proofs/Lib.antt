-- Laws of new segments in the tables, in reading order.
pub mod Chaining
pub mod NextIds
pub mod Keeping
pub mod Lookups
pub mod Adding
