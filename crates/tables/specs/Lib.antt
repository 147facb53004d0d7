-- What the tables of a text hold.
pub mod Segments
pub mod Names
pub mod Links
pub mod Steps
pub mod Paths
pub mod Entries
pub mod Tables
pub mod ByNumber
pub mod Props
