-- Laws of runs and counts.
pub mod RunEnds
pub mod RunsLeft
pub mod Totals
