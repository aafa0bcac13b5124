pub mod Adding
pub mod Lists
pub mod Strings
pub mod Words
