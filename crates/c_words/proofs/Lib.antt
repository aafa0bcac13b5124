mod FirstBytes
mod FixedWords
mod MangledRows
mod MangledWalks
mod Narrowing
mod SymbolsOrNumbers
pub mod Walks
pub mod WordNumbers
