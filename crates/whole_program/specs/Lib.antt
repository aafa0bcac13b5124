pub mod Law
pub mod Sources
