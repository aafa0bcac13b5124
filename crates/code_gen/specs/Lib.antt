pub mod Callees
pub mod Emission
pub mod Scopes
pub mod Settings
