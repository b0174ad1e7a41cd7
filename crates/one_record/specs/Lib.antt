pub mod Accepting
pub mod Statements
