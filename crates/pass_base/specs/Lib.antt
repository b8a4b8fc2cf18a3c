pub mod Runs
pub mod Books
pub mod Faults
