pub mod Activities
pub mod Adds
pub mod Causes
pub mod Gathers
pub mod Held
pub mod Sends
