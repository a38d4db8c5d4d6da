-- What is claimed: Both, Sides, Waiting, Sentences, Near, Words, Help. Sights has what a page shows of a desk, Telling what it is told.
pub mod Both
pub mod Sides
pub mod Waiting
pub mod Sights
pub mod Telling
pub mod Sentences
pub mod Near
pub mod Words
pub mod Help
