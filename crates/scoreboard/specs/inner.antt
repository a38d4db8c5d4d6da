-- Definitions for private functions only.
pub mod Marks
pub mod Counting
pub mod Recent
