mod EntityLemmas
pub mod PieceLemmas
mod JoinedLemmas
mod SliceLemmas
pub mod Holding
pub mod Function
pub mod Leaves
pub mod Written
pub mod NodeFacts
pub mod NameFacts
pub mod OneName
mod CharsLemmas
mod TextsLemmas
mod AppendLemmas
mod RawFacts
mod PlainLemmas
pub mod FingerprintLemmas
