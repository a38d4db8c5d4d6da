-- For private functions and proofs only.
pub mod Hashers
