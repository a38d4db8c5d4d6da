pub mod KeptVotes
pub mod WindowLemmas
