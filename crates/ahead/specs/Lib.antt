-- What is claimed: Sorts, which lines may be held; Undoing, when `undo` may be meant for a line that was held; Ahead, what
-- becomes of typed lines; Order, that the lines that the desk may cast are such lines, each once and in their order;
-- Dropping, when held lines are dropped, and what rows tell of lines.
pub mod Sorts
pub mod Undoing
pub mod Ahead
pub mod Order
pub mod Dropping
