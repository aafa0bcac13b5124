pub mod Answering
pub mod Breaches
pub mod ClauseSteps
pub mod Imports
pub mod Layers
pub mod RightHeads
pub mod Takings
pub mod Worked
