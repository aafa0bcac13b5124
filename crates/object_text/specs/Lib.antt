pub mod Answers
pub mod Format
pub mod Header
pub mod Headers
pub mod Parts
