pub mod Added
pub mod Decoded
pub mod Decoding
pub mod Forms
pub mod Rows
pub mod Runs
pub mod Steps
pub mod Words
