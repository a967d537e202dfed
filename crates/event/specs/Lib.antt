pub mod Kinds
pub mod Bytes
