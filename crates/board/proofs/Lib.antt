pub mod Recalling
pub mod Splits
