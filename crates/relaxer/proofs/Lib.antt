pub mod Fronts
pub mod Chunks
pub mod Rounds
pub mod Changes
pub mod Built
pub mod Untouched
pub mod Nearby
pub mod Grown
pub mod Resized
mod Examples
