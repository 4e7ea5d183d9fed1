pub mod Splices
pub mod Order
pub mod Plans
pub mod Turns
