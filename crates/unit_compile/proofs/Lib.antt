pub mod Interfaces
pub mod Objects
pub mod Refusals
pub mod Units
