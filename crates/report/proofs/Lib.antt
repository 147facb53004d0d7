-- Laws of the report, in reading order.
pub mod Repeating
pub mod Ordering
pub mod Reported
pub mod Answering
pub mod Serving
