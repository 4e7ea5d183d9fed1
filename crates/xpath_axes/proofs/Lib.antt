pub mod TestLemmas
pub mod WalkLemmas
pub mod AxisLemmas
pub mod ClimbLemmas
pub mod BackLemmas
pub mod FirstLemmas
pub mod OrderLemmas
pub mod ToldLemmas
