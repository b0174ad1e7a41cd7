pub mod Header
pub mod Short
pub mod Walk
pub mod Quick
