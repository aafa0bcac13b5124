pub mod Compilation
pub mod Parts
pub mod Refusals
