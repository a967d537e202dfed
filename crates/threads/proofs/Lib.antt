pub mod EntriesLaws
pub mod ActionsLaws
pub mod TurnsLaws
pub mod Searches
