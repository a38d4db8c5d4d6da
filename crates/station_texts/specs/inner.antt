-- Only for private functions and proofs: the contracts can be judged without it.
pub mod Telling
