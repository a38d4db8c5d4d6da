-- What is claimed: Replays, over the runs of `headline`; Plans, Refusals, Answers, CodeWorlds and Lending; and the words of
-- SeenWords. inner serves private functions only.
pub mod Refusals
pub mod Plans
pub mod Answers
pub mod CodeWorlds
pub mod Lending
pub mod Replays
pub mod SeenWords
pub mod inner
