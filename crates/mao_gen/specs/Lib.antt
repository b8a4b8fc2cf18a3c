pub mod Shapes
pub mod Functions
pub mod Generated
