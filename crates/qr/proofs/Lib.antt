pub mod ContentLemmas
pub mod DeterminedLemmas
pub mod PlacingLemmas
pub mod RangeLemmas
pub mod RootLemmas
pub mod TextLemmas
