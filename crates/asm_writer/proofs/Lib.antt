pub mod Texts
pub mod Read
pub mod Puts
pub mod UnitLaws
pub mod RunLaws
