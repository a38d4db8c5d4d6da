pub mod ListItems
pub mod PowerplayLemmas
pub mod WalkLemmas
