pub mod Told
pub mod FirstLemmas
pub mod OwnLemmas
pub mod SumLemmas
pub mod PartLemmas
pub mod JoinLemmas
