-- Lemmas on the lives of the program's stations, on what they took from the network, and on matches of them.
mod Authentic
mod Heard
mod InTurn
mod Lives
mod Matches
mod Network
