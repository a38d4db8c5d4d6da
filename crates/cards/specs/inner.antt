-- Definitions for private functions and proofs only.
pub mod Names
pub mod Words
