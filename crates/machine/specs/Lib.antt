-- What a keyboard gives, and what a screen's stream has taken.
pub mod Keyboards
pub mod Outlets
pub mod Rows
pub mod Screens
pub mod Strangers
pub mod Whereabouts
