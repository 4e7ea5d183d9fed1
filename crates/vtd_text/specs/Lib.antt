-- What callers read.
pub mod NameRecords
pub mod Raw
pub mod Fingerprints
-- What private functions promise.
pub mod Tokens
pub mod Joined
pub mod Resolved
pub mod Apart
