-- Lemmas on a board's process, on what it heard, on texts that are made once, and on what a page shows before a desk is heard.
mod KeepingLemmas
mod HeardLemmas
mod MadeLemmas
mod WaitingLemmas
