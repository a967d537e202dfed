pub mod Doors
pub mod Inner
