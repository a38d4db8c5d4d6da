-- Lemmas on a keyboard's lines, and on a screen's contents.
mod KeyboardLemmas
mod ScreenLemmas
