-- The specification of the public functions: Value with all that it cites.
pub mod Wants
pub mod Players
pub mod Over
pub mod Book
pub mod Sides
pub mod Head
pub mod Value
pub mod Laws
pub mod Worked
pub mod inner
