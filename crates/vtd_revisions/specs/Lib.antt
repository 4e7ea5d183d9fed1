pub mod Timelines
pub mod Laws
