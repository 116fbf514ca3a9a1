pub mod Stands
pub mod Rows
pub mod Taken
pub mod Sides
pub mod Walked
pub mod HandedOn
