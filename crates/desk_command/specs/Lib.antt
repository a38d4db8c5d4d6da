-- How `desk` ends, Ends; what a desk's disk shows, Disks, and which files it is on, OnFiles; its process there, Keeping, and
-- what that leaves to be seen, Traces; what its life tells, Lives; and that its votes are for lines that were typed, Typed.
pub mod Disks
pub mod Ends
pub mod Keeping
pub mod Lives
pub mod OnFiles
pub mod Traces
pub mod Typed
