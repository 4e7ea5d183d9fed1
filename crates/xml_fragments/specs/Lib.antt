pub mod Cut
pub mod Fragment
