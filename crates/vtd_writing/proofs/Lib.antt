pub mod Joins
pub mod Finished
