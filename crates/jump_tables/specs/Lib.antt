pub mod Names
pub mod Uses
pub mod EntryNames
pub mod Classes
pub mod Sections
pub mod Tables
pub mod Collected
