pub mod Heads
pub mod Steps
pub mod Parts
pub mod Turns
pub mod Decided
