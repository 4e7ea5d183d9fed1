pub mod Backs
pub mod Exact
pub mod Following
pub mod Making
pub mod Rings
