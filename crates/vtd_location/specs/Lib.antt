pub mod Nav
pub mod Differences
pub mod Scanning
pub mod Filling
pub mod Counting
pub mod Children
pub mod ScanningOne
