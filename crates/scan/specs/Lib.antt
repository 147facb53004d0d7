-- What the contracts on places, names and numbers in a text say.
pub mod Places
pub mod TextLines
pub mod Parts
pub mod Orientations
pub mod Numbers
pub mod Differences
