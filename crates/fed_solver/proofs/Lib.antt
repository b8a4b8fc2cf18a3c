pub mod Bits
pub mod Handed
pub mod Steps
pub mod Between
