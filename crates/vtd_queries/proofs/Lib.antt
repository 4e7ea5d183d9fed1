mod Words
mod Splitting
mod Cuts
mod Halves
mod Levels
mod Derivations
mod Calls
pub mod Readings
pub mod Answers
mod Asked
mod Made
