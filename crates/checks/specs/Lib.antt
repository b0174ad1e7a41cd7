pub mod Tags
pub mod Checks
pub mod Code
