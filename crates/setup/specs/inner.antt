-- Specs for private functions and proofs only.
pub mod Opening
