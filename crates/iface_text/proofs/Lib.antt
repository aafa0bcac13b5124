pub mod BadLines
pub mod Bytes
pub mod Counts
pub mod Refusals
pub mod RowLines
pub mod RowLists
pub mod RowParts
pub mod Steps
