-- Lemmas on answers read as HTTP, on what isn't encrypted, and on who is dropped.
pub mod OpenLemmas
pub mod PlaceLemmas
pub mod ResponseLemmas
