pub mod Image
pub mod Whole
pub mod Agree
pub mod Statements
pub mod Words
