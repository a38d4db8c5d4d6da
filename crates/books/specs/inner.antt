-- What serves private functions and proofs only.
pub mod Both
pub mod Seats
pub mod Tally
