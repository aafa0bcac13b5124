pub mod Tree
pub mod WellFormed
