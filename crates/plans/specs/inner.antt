-- Definitions for private functions and proofs only.
pub mod Standing
pub mod Reading
