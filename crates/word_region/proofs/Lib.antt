pub mod Joined
pub mod Laid
pub mod Sound
pub mod Zeros
