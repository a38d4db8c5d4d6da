pub mod Rooms
pub mod Items
