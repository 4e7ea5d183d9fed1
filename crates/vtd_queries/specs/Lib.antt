pub mod Faults
pub mod Readings
pub mod Questions
pub mod Operations
pub mod Meets
