pub mod DistinctNames
pub mod NamedEntries
pub mod NumberTexts
pub mod SymbolTests
pub mod TypeSplits
