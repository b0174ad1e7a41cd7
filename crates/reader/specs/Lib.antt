pub mod Inside
pub mod Fields
pub mod Lists
pub mod Eight
pub mod Reading
