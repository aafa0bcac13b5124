pub mod Chosen
pub mod Places
pub mod Programs
pub mod Refused
mod RowNames
pub mod Texts
pub mod Visited
pub mod Wholes
