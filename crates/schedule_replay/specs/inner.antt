-- What serves private functions and proofs only.
pub mod RunsSoFar
pub mod ShownScores
pub mod Sites
pub mod VotesFiles
pub mod WorldBoards
