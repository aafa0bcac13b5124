pub mod Answers
pub mod Heads
pub mod Shapes
pub mod Steps
