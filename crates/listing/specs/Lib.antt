pub mod Text
pub mod Put
pub mod Room
pub mod Lines
