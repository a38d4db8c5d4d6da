-- What passes at a link (Passed), what was typed (Typing), what the logs of both record (Logs), and what a window does
-- (Windows).
pub mod Passed
pub mod Typing
pub mod Logs
pub mod Windows
