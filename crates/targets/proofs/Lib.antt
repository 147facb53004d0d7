-- Laws of the marks, in reading order.
pub mod Markers
pub mod Adding
pub mod EligibleMarks
pub mod Looking
pub mod FoldedMarks
