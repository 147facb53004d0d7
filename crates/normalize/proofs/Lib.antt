-- Laws of the normalizer, in reading order.
pub mod Admitted
pub mod Deciding
pub mod Demand
