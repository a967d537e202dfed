pub mod Tasks
pub mod Entries
pub mod Able
pub mod Turned
pub mod Records
