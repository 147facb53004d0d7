-- The meaning of a GFA text, in reading order.
pub mod Options
pub mod Bytes
pub mod Decimal
pub mod Sums
pub mod Reading
pub mod Records
pub mod Sequences
pub mod Spelling
pub mod Runs
pub mod Calls
pub mod Services
pub mod Conditions
pub mod Gfa1
pub mod Gfa1Read
