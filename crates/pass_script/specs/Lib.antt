pub mod Catalogue
pub mod Grammar
pub mod Script
pub mod walks
