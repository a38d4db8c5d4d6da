pub mod Listed
pub mod OverWalk
pub mod Columns
