pub mod ContentOctets
pub mod Numbers
pub mod OneRecord
