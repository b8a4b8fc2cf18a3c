pub mod Sound
pub mod Steps
pub mod OtherFunctions
pub mod Names
pub mod Rooms
pub mod Padding
pub mod Runs
