pub mod Names
pub mod Rising
