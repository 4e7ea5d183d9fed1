pub mod Faults
pub mod Queries
pub mod Staging
pub mod States
pub mod Steps
pub mod Runs
pub mod Changes
