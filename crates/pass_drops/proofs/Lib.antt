mod Examples
mod Walked
mod Serials
mod Places
mod DropLaws
mod KillLaws
mod InsertLaws
mod PickLaws
