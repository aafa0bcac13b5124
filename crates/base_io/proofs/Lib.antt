pub mod Consumed
pub mod Entries
pub mod Names
pub mod Putting
