pub mod Bits
pub mod Headers
pub mod Elements
pub mod Short
pub mod Quick
