pub mod Putting
pub mod RowTexts
pub mod CellLemmas
pub mod RowLemmas
