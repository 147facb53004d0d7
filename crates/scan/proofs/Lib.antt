-- Laws for the proofs of the code.
pub mod Finding
pub mod Cutting
pub mod LineEnds
pub mod Parts
pub mod Fields
pub mod SameNames
pub mod SequenceLengths
pub mod Numerals
pub mod Orientations
