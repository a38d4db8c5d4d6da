-- Definitions that only private functions and proofs use.
pub mod Cursor
pub mod Decoding
pub mod TokenReading
pub mod Writing
