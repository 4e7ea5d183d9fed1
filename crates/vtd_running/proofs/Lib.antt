pub mod FormLemmas
pub mod CountLemmas
pub mod Endings
pub mod IndexEndings
pub mod Generations
pub mod Outcomes
