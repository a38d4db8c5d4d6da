-- Lemmas on a desk's process, and on the votes of its life.
mod KeepingLemmas
mod TypedLemmas
