-- What the public laws and calls claim: positions, votes and what they settle, the calls of seats, readers, desks and boards,
-- what those calls preserve (Keeping), and worked rows (Rows, WorkedSteps). No module serves private functions only.
pub mod Positions
pub mod Seats
pub mod Readers
pub mod Ballots
pub mod Agreed
pub mod Books
pub mod Laws
pub mod Rows
pub mod FileView
pub mod Desks
pub mod Openings
pub mod LostLines
pub mod Boards
pub mod Keeping
pub mod WorkedSteps
