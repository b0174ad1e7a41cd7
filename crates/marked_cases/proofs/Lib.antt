pub mod Ruled
pub mod Sample
pub mod Cases
