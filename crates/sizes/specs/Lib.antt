pub mod Size
pub mod Plain
