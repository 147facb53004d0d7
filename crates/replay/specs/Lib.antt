-- What the contracts on replayed calls say.
pub mod Left
