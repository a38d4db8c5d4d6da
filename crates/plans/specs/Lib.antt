-- What the public calls claim: Plans, Answers, Bowlers, Planning. inner is for private functions only.
pub mod Plans
pub mod Answers
pub mod Bowlers
pub mod Planning
pub mod inner
