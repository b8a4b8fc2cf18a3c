pub mod Chains
pub mod Lines
pub mod Lies
pub mod ReadBack
pub mod FromEntries
pub mod AsRead
pub mod Edits
pub mod Others
