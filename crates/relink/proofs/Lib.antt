-- Laws of the links, in reading order.
pub mod Lookups
pub mod Adding
pub mod Adders
pub mod Settled
