-- What callers read: places in bytes, and the readers by which texts are read.
pub mod Places
pub mod Readers
pub mod Reading
pub mod Shown
-- What private functions promise.
pub mod Numbers
pub mod Wide
