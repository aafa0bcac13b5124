pub mod Acting
pub mod Folding
pub mod Lines
pub mod Pieces
pub mod Reading
pub mod Runs
pub mod Top
