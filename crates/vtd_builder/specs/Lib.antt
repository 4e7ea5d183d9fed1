pub mod Offered
pub mod Found
pub mod Documents
pub mod Cuts
pub mod Exchanges
