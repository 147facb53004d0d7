-- A law of the normalizer's refusals.
pub mod Numbers
