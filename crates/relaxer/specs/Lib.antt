pub mod Sizes
pub mod Chunks
pub mod Layout
pub mod walks
