pub mod Unions
pub mod Filters
pub mod Ones
