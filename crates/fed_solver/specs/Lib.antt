pub mod Graph
pub mod walks
