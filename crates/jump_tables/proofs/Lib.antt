pub mod NameLaws
pub mod EachLaws
pub mod UseLaws
pub mod StartLaws
