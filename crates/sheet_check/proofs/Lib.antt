-- Lemmas that several proofs share.
pub mod FirstFaults
pub mod Items
pub mod Puts
