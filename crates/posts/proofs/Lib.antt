-- A position's text at its point: PlaceTexts. Nonces over many calls: NonceLemmas. Logged lines were posted: PostedLemmas.
-- How a secret is encrypted, and who is handed it: TicketLemmas. What is XORed twice, and numbers: VeilLemmas.
pub mod NonceLemmas
pub mod PlaceTexts
pub mod PostedLemmas
pub mod TicketLemmas
pub mod VeilLemmas
