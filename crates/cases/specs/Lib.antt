-- What the contracts on lists of cases say.
pub mod Cases
pub mod Lists
