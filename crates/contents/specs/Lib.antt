pub mod Element
pub mod Leaf
pub mod Set
pub mod Content
pub mod Root
pub mod Kept
pub mod Head
pub mod Taken
