-- What a viewer is sent: Replies; each answer is one HTTP response: Responses. What a viewer was told, and what its stream
-- took: Said. The lines that wait for a desk: Inboxes. Whose place is safe: Places. What is encrypted: Veiled.
pub mod Replies
pub mod Responses
pub mod Said
pub mod Inboxes
pub mod Places
pub mod Veiled
