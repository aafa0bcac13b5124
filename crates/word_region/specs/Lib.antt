pub mod Layout
pub mod Regions
