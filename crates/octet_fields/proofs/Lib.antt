pub mod Asking
pub mod OctetFields
pub mod PartOctets
