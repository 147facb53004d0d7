-- What the contracts of the nodes' lines say.
pub mod NodeLines
pub mod Groups
pub mod GroupsLeft
