-- what callers read
pub mod Tokens
pub mod Numbers
-- what the working functions promise
pub mod Words
pub mod Reading
pub mod Scanning
