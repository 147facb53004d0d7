-- Laws of the report, in reading order.
pub mod Service
pub mod Computing
pub mod Examples
