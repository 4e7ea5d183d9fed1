pub mod Ordered
pub mod Keys
pub mod Staged
pub mod Chain
pub mod Overlaps
pub mod Texts
pub mod Turning
pub mod Held
