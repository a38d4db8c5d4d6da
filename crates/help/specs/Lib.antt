-- What is claimed: Words, what is asked about; Texts, what is told of it.
pub mod Words
pub mod Texts
