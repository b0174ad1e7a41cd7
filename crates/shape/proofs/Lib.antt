pub mod Shapes
pub mod Buffer
