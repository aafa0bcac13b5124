pub mod Done
pub mod Halts
pub mod Messages
pub mod Outside
pub mod Scripts
pub mod Steps
pub mod Works
