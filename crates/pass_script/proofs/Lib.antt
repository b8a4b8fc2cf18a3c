mod Examples
mod Runs
mod Order
mod Outcomes
pub mod Numbers
mod Bytes
mod InBrackets
mod InOptions
mod InSteps
