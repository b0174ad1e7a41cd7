pub mod Table
pub mod Rows
pub mod Content
pub mod Decode
pub mod Parts
pub mod Count
pub mod Statements
