-- Laws of the two passes, in reading order.
pub mod Countings
pub mod PathCounting
pub mod Names
pub mod NodeRows
pub mod Linking
pub mod Visiting
pub mod Passing
