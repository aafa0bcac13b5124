pub mod Answers
pub mod Walks
pub mod Tops
pub mod TopWalks
pub mod Groups
pub mod Around
