-- What callers read: which nests are those of documents, and the pieces of a nest in their place.
pub mod Fits
pub mod Context
pub mod Moved
pub mod Stand
