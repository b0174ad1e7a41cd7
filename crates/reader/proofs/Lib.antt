pub mod Lists
pub mod FieldHeads
pub mod FieldReads
pub mod Bounds
pub mod Filling
pub mod Answered
pub mod Eights
pub mod Readings
