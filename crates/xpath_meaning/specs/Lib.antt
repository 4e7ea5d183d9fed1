pub mod Meets
pub mod Context
pub mod Functions
pub mod Meaning
pub mod Scope
