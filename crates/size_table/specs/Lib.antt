pub mod Operands
pub mod Prefixes
pub mod Sizes
