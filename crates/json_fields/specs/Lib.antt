-- The specification of the public functions.
pub mod Values
