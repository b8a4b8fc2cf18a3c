pub mod Growth
pub mod Resizing
