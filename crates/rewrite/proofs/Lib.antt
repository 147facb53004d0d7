-- Laws for the proofs of the code.
pub mod Sections
pub mod RawLines
pub mod NewLines
pub mod Whole
