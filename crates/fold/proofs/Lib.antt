-- Laws of new steps and new paths in the tables, in reading order.
pub mod Pairing
pub mod Putting
pub mod Finding
pub mod Growing
pub mod Turning
pub mod Running
pub mod Passing
pub mod Transforming
pub mod Foldings
pub mod Knowns
