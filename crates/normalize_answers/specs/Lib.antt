-- What the contracts of the answers say.
pub mod Counters
pub mod Answered
pub mod Tied
pub mod Folding
