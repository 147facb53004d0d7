-- Laws of slots.
pub mod Lasts
pub mod Slotting
pub mod Walking
