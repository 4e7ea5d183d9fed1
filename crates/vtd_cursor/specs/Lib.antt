pub mod Endings
pub mod Tags
pub mod Searches
pub mod Moves
pub mod Listed
pub mod Passes
pub mod Elements
