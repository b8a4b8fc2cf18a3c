mod Counts
mod Entries
pub mod Laws
mod Steps
mod Undrawn
mod Weights
