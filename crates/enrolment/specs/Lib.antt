pub mod Enrolled
pub mod Refuses
pub mod Statements
