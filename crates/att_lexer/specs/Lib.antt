pub mod Bytes
pub mod Scan
pub mod Pieces
pub mod Tokens
pub mod Chosen
pub mod Walk
