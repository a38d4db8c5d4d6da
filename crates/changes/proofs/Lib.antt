pub mod Undone
pub mod TellingLemmas
