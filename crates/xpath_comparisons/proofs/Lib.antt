pub mod CompareLemmas
pub mod ExtentLemmas
pub mod IndexLemmas
pub mod KindLemmas
pub mod NumbersLemmas
pub mod SetLemmas
