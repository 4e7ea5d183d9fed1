pub mod NodeLemmas
pub mod EscapeLemmas
