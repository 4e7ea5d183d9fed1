pub mod Spans
pub mod Listing
pub mod Nodes
pub mod Escapes
