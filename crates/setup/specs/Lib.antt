-- What the public calls claim: Fault; SheetText; Keys; the calls on a desk's votes file, Files; which of two files counts,
-- Counting; what passes at a link and what its socket carries, Carried; and how a run over readers and a writer ends, Ends.
-- inner: for private functions only.
pub mod Carried
pub mod Counting
pub mod Ends
pub mod Fault
pub mod Files
pub mod KeyOwners
pub mod Keys
pub mod SheetText
pub mod inner
