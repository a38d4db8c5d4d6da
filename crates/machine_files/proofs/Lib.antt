-- Lemmas on the calls of a file, on what is certain of it after them, and on two files that are kept alike.
mod CallLemmas
mod ImageLemmas
mod PairLemmas
