-- Laws for the proofs of the sequences.
pub mod SequenceLaws
pub mod Repeating
