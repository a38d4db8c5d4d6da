-- What is claimed of a disk on a real file or on two; of a file's calls, also if it is held by its name (Named); of the
-- texts that a text file was given (Texts); and of what is told of a file that can't be written.
pub mod Alike
pub mod CallLogs
pub mod Calls
pub mod FileDisk
pub mod History
pub mod Named
pub mod Pairs
pub mod Texts
pub mod WriteFault
