-- What a replay prints, Replay, and how its run ends, ReplayRun.
pub mod Replay
pub mod ReplayRun
