-- What callers read: the laws, the nesting machine of which they speak, and what a check that accepts counts.
pub mod Laws
pub mod Machine
pub mod Verdicts
-- What private functions promise.
pub mod Ampersands
pub mod Counts
pub mod Encodings
pub mod Open
pub mod Passes
pub mod Phases
pub mod Widths
