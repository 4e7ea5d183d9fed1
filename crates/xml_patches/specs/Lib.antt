pub mod Edited
pub mod Patched
pub mod Renumbered
