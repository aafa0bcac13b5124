pub mod MacroTables
pub mod MacroUses
pub mod Turns
pub mod Decisions
pub mod Definings
pub mod Values
mod Pieces
