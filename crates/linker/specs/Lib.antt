pub mod Links
pub mod Modules
pub mod Rows
