pub mod Joined
pub mod Representation
pub mod Translation
