-- What serves private functions and proofs only.
pub mod Halves
pub mod Telling
