-- The meaning of the report, in reading order.
pub mod Nodes
pub mod Order
pub mod Lines
pub mod Services
