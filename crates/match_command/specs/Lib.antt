-- What the public calls claim: MatchRun. inner: for private functions only.
pub mod MatchRun
pub mod inner
