pub mod Alike
mod Views
pub mod Steps
