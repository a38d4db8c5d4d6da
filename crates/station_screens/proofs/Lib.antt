-- A lemma on what passes at a station.
pub mod CarriedLemmas
