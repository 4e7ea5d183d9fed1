pub mod Changing
pub mod Exact
