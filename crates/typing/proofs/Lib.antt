pub mod CourseLemmas
pub mod KeepingLemmas
