-- What is claimed: Before, and Text with Changes, Rows and Stage; Worked. inner: for private functions only.
pub mod Before
pub mod Changes
pub mod Rows
pub mod Stage
pub mod Text
pub mod Worked
pub mod inner
