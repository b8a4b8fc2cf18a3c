pub mod Last
pub mod Replayed
