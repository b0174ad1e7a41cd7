pub mod Joins
pub mod Texts
pub mod Decimal
pub mod Writes
