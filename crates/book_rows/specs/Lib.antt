-- What is claimed: Listing, OverEntries. inner is for private functions only.
pub mod Listing
pub mod OverEntries
pub mod inner
