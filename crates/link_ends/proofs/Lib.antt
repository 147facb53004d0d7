-- Laws of the links, in reading order.
pub mod Places
pub mod Endings
pub mod Relinkers
