-- A law of the report's refusals.
pub mod Numbers
