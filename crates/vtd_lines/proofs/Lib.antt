pub mod LineLemmas
pub mod FieldLemmas
pub mod ReadLemmas
mod Examples
