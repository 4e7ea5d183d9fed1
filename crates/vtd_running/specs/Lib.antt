pub mod Form
pub mod Seen
pub mod Statuses
pub mod Meaning
pub mod Parts
