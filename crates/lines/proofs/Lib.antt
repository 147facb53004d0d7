-- Laws of a line.
pub mod LineSorts
pub mod LineFields
pub mod Room
pub mod Adding
pub mod AddedSegments
pub mod AddedLinks
pub mod AddedPaths
pub mod Entering
pub mod NewLines
