-- what callers read
pub mod Tree
pub mod Grammar
pub mod Laws
pub mod Parse
pub mod Functions
pub mod Bindings
pub mod Static
pub mod Passes
-- what the working functions promise
pub mod Shape
pub mod Cutting
pub mod TokenParse
pub mod Held
pub mod Checking
