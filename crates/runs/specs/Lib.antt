-- What the contracts on runs and counts say.
pub mod Runs
pub mod RunsLeft
pub mod Counts
