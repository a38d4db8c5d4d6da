-- What is claimed. Laws: of flows of Happenings, by the Headline for processes, with Printing and PublicScores. Weaving: of the
-- Lives of stations. Progress: what goes on with them, by Exchanges. Stations and Files tie lives to processes and to files.
-- Worked is one such life.
pub mod Printing
pub mod Happenings
pub mod PublicScores
pub mod Noted
pub mod SecondVotes
pub mod Headline
pub mod Laws
pub mod Exchanges
pub mod Progress
pub mod Lives
pub mod Files
pub mod Sealing
pub mod Weaving
pub mod LostLines
pub mod Parting
pub mod Stations
pub mod Worked
