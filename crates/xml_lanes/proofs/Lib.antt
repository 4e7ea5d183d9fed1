pub mod Masks
pub mod RunLemmas
