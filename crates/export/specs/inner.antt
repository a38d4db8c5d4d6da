-- Definitions for private functions and proofs only.
pub mod Corrections
pub mod Putting
