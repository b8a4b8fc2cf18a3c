pub mod Plan
pub mod Outcome
pub mod walks
