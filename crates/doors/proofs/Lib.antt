pub mod Entering
pub mod Lending
pub mod Looking
pub mod Seeing
pub mod Shares
pub mod Starting
