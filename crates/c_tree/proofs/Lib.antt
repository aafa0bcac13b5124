pub mod Backwards
pub mod CNames
mod Cuts
pub mod Forwards
pub mod Left
pub mod NameShapes
pub mod OpNames
pub mod Ranges
pub mod Spelled
pub mod Unmangled
