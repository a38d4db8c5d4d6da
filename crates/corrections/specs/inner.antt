-- Definitions for private functions and proofs only.
pub mod Kept
pub mod Overs
pub mod Scoring
