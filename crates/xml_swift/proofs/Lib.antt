pub mod Bytes
pub mod FrontLemmas
pub mod ItemLemmas
