pub mod Answers
pub mod Enrollable
pub mod Refused
