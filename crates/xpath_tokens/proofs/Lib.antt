pub mod Runs
pub mod Longest
pub mod Spaces
pub mod Reading
pub mod Splitting
pub mod SpelledNumbers
