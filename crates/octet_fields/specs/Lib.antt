pub mod Asked
pub mod AskedRow
pub mod Statements
