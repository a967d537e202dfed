pub mod KindsLaws
pub mod Told
pub mod EventLaws
