-- What the crate claims: the values in a sheet's `[stations]`, Stations; the options that a station starts with, Begun.
pub mod Begun
pub mod Stations
