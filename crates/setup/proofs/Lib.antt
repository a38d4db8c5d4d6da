mod BlockLemmas
mod LineLemmas
