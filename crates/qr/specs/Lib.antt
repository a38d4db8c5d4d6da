-- The specification: the codewords of a text and their roots, which modules are dark, and the text that is printed.
pub mod Check
pub mod Content
pub mod Modules
pub mod Print
pub mod Roots
