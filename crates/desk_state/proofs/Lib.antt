pub mod Filters
pub mod NotedLemmas
pub mod OverLemmas
pub mod ItemLemmas
pub mod CorrectedLemmas
pub mod NewsLemmas
pub mod CheckLemmas
pub mod OfferLemmas
