pub mod Tags
pub mod Checking
