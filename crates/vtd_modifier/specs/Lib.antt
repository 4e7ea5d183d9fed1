pub mod Escapes
pub mod Rows
pub mod Parts
pub mod Outcomes
