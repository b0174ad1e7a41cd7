pub mod Calls
pub mod ImageRead
pub mod Numbers
pub mod Same
