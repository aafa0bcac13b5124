pub mod ClauseSteps
pub mod NamedForms
pub mod RowSteps
pub mod LoopForms
pub mod NamedLets
pub mod Repeats
