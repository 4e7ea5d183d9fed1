pub mod NodeFacts
pub mod OrderingLemmas
pub mod StepFacts
pub mod LanguageLemmas
pub mod NameLemmas
