pub mod Rows
pub mod StandLemmas
pub mod ShareLemmas
pub mod RecentLemmas
pub mod CountLemmas
pub mod LawLemmas
