-- The specification of a delivery's JSON: Notes, the items that it carries; Innings; Deliveries, Wickets and Miscounts; Names.
pub mod Notes
pub mod Innings
pub mod Wickets
pub mod Deliveries
pub mod Miscounts
pub mod Names
