-- What the public calls claim: BothFiles, Card, CardBook, Comparing, DeskVotes, OneHistory, Rejected, Table, Taking.
-- inner: for private functions only.
pub mod BothFiles
pub mod Card
pub mod CardBook
pub mod Comparing
pub mod DeskVotes
pub mod OneHistory
pub mod Rejected
pub mod Table
pub mod Taking
pub mod inner
