-- What is claimed: Counts: how far an innings has come; Balls: which delivery a number names.
pub mod Counts
pub mod Balls
