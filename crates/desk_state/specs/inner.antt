-- Definitions for private functions only.
pub mod Before
pub mod Corrected
pub mod Items
