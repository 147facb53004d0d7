-- What the normalizer's tables say.
pub mod Layout
pub mod Marks
pub mod News
pub mod NewByNumber
pub mod Rewritten
pub mod NodeIds
pub mod Normalizers
