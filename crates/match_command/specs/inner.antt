-- Specs for private functions and proofs only.
pub mod Online
pub mod Turns
