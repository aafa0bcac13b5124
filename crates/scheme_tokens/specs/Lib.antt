pub mod Comments
pub mod Digits
pub mod Hashes
pub mod Lexemes
pub mod Strings
pub mod Tokens
pub mod Words
