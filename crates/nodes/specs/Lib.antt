-- What the contracts of the node table say.
pub mod Counters
pub mod Table
