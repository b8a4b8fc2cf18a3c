pub mod Given
pub mod Left
