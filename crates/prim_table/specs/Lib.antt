pub mod Errors
pub mod Order
pub mod Table
