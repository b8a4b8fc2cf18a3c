pub mod ItemLaws
pub mod Offsets
pub mod Picked
pub mod Determined
pub mod Small
mod ReplayExamples
mod StretchExamples
mod LegalExamples
mod MoreLegalExamples
mod SwitchExample
mod LayoutExamples
mod RuleExamples
mod GoalExamples
mod DoneExamples
