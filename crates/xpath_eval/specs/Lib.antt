pub mod Parts
pub mod Signs
