pub mod Named
pub mod Round
pub mod Document
pub mod Prefixes
