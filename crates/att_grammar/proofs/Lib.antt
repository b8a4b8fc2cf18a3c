pub mod Read
pub mod Decimal
pub mod Spelled
mod Examples
pub mod Cursors
pub mod Terms
pub mod Words
pub mod Parts
pub mod InProfile
pub mod CanonicalExpressions
pub mod CanonicalOperands
pub mod CanonicalSpelling
pub mod CanonicalMnemonics
pub mod CanonicalForms
pub mod CanonicalInsns
pub mod CanonicalLaw
pub mod CanonicalPieces
