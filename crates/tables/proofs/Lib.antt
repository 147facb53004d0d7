-- Laws of the tables.
pub mod PathKinds
pub mod TableRows
pub mod NamesSlotted
pub mod Numbers
pub mod Finding
pub mod Standing
pub mod ByNumber
pub mod Named
