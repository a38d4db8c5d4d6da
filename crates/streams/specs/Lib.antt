-- What the public functions claim: Watched; Calls, what a stream was asked for; Failures, how many calls on it failed.
pub mod Calls
pub mod Failures
pub mod Watched
