-- What callers read.
pub mod Shown
pub mod AttributeList
pub mod Counted
-- What private functions promise.
pub mod Reading
pub mod Counting
pub mod MayBegin
pub mod Parts
pub mod Plain
pub mod Quotes
pub mod Runs
pub mod Suffixes
