-- What the public functions claim: Value with all that it cites (Innings, Document, Given, Meta, Info, Limited, Falls, Entries,
-- Escapes), Disagreement, Laws and Readers. inner: for private functions and proofs only.
pub mod Innings
pub mod Disagreement
pub mod Document
pub mod Given
pub mod Meta
pub mod Info
pub mod Limited
pub mod Falls
pub mod Entries
pub mod Escapes
pub mod Value
pub mod Laws
pub mod Readers
pub mod WorkedSums
pub mod WorkedDocuments
pub mod inner
