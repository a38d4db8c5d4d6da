pub mod FallingLemmas
pub mod LawLemmas
