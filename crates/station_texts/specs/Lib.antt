-- The claims about a desk's texts (Texts, with Doubts, Questions, Laters and Planning; Asides for held lines), a board's
-- (Notices; NoticeLogs, what a log of them tells), what is told as values (ToldValues), and what a typed line comes to (Saying). inner: for private functions only.
pub mod Saying
pub mod Doubts
pub mod Questions
pub mod Laters
pub mod Planning
pub mod Texts
pub mod ToldValues
pub mod Asides
pub mod Notices
pub mod NoticeLogs
pub mod inner
