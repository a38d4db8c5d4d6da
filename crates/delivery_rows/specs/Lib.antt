-- What the public functions ensure: Table with all it cites (Cells, Day, Standing, Deliveries, Innings, Penalties), and Laws.
pub mod Cells
pub mod Day
pub mod Standing
pub mod Deliveries
pub mod Innings
pub mod Penalties
pub mod Table
pub mod Laws
