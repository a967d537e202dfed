pub mod History
pub mod Charged
pub mod Lowered
pub mod Kept
pub mod Solvency
pub mod Window
