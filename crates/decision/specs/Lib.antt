pub mod Narrowing
pub mod Leads
pub mod Seen
pub mod Keeping
pub mod Orders
pub mod Decides
pub mod Upkeep
pub mod Follow
