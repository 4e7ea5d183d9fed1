pub mod Lines
pub mod Fields
pub mod Commands
pub mod Readings
