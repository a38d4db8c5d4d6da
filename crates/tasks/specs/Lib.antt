-- What is claimed of the words on the command line.
pub mod Words
