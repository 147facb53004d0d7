-- Laws of the normalizer's tables, in reading order.
pub mod Lists
pub mod Words
pub mod Sources
pub mod Nodes
pub mod Numbered
pub mod NewByNumber
pub mod NewsKept
pub mod NewsStand
pub mod Normalizers
