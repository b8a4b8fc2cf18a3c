pub mod walks
