pub mod Journal
pub mod Replay
pub mod Bodies
pub mod Proper
