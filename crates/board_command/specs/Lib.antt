-- What a board's files are given, Files; when it heard its desks, Hearing and Hearings, and what it shows before that, Waiting;
-- its process, Keeping, and what its life tells of it, Lives. inner: for private functions only.
pub mod Files
pub mod Hearing
pub mod Hearings
pub mod Keeping
pub mod Lives
pub mod Waiting
pub mod inner
