pub mod EachLemmas
pub mod LinesAgain
