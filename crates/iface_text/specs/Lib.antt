pub mod Answers
pub mod Format
pub mod Lines
pub mod Reading
pub mod Refusal
pub mod Rows
