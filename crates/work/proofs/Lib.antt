-- Laws of rows and stores.
pub mod Stores
pub mod Rows
pub mod RowCuts
pub mod Filling
pub mod Words
