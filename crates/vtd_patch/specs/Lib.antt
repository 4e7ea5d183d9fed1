pub mod Patches
pub mod Changes
