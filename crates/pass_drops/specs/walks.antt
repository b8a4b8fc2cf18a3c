pub mod Dropping
pub mod Inserting
