-- Definitions for private functions and proofs only: the contracts can be judged without them.
pub mod Writing
pub mod Marking
