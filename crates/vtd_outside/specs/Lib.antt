pub mod Causes
pub mod Known
pub mod Gathered
pub mod Written
pub mod Objects
pub mod Seen
pub mod Held
