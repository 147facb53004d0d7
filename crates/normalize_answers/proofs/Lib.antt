-- Laws of the answers, in reading order.
pub mod Answering
pub mod Tying
pub mod Steering
pub mod Rewrites
