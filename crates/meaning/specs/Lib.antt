pub mod Evaluation
pub mod Order
pub mod Primitives
pub mod Procedures
pub mod Program
pub mod ProgramRows
pub mod Rows
pub mod Value
