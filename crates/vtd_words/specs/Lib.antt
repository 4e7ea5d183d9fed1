pub mod Packed
pub mod Lists
pub mod Table
pub mod Found
pub mod Numbers
pub mod View
pub mod Metered
pub mod Exchanged
