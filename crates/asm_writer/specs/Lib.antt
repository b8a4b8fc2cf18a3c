pub mod Fragments
pub mod Unit
pub mod Runs
