-- What holds of the stations that the program keeps: their lives, Lives; what the network may do to them, Network; all that
-- happens in a match, Matches; and lives of which the law on matches speaks, InTurn.
pub mod InTurn
pub mod Lives
pub mod Matches
pub mod Network
