pub mod Chains
pub mod FirstParts
pub mod Loops
pub mod Meanings
pub mod Opposites
pub mod Root
pub mod Scans
