pub mod Command
pub mod Chosen
pub mod Refused
