pub mod Digits
pub mod Fronts
pub mod Rows
pub mod Scanning
