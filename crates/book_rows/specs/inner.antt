-- Definitions for private functions only.
pub mod Items
