pub mod Versions
pub mod Steps
pub mod Chains
pub mod Kept
pub mod Laws
