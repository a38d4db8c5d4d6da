-- Definitions that only private functions and proofs use.
pub mod Added
pub mod BattingTables
pub mod BowlingTables
