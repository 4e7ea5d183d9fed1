-- What callers read.
pub mod NodeNames
pub mod Uris
pub mod OpenTags
pub mod Undeclared
-- What private functions promise.
pub mod NameRecords
pub mod Faults
pub mod Repeats
pub mod Rounds
pub mod Scope
pub mod Reach
pub mod Memos
pub mod Offences
pub mod Plain
pub mod Windows
