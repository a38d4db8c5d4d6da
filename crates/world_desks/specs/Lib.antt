-- What is claimed: WorldDesks and Lent, of the desks of a world; VotesFiles, of the votes in their files.
pub mod WorldDesks
pub mod Lent
pub mod VotesFiles
