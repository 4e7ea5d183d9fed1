pub mod Comparing
pub mod Extents
pub mod Sets
