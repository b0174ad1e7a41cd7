pub mod Token
pub mod Rules
pub mod Ruling
pub mod Code
pub mod Allowed
pub mod Refuses
pub mod Statements
