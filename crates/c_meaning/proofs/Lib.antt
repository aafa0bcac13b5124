pub mod Bodies
pub mod CodeBreaches
pub mod CodePlain
pub mod Heads
pub mod PlainChecked
pub mod Roles
pub mod Tests
