-- Definitions for private functions and proofs only.
pub mod Walks
