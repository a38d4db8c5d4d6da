-- The claims: Keys, the keys in a terminal's bytes; Drafts, what each key does to the line; Terminals, what one byte or one
-- piece of the desk's rows does; Courses, what all of them do; Logs, what was heard.
pub mod Courses
pub mod Drafts
pub mod Keys
pub mod Logs
pub mod Terminals
