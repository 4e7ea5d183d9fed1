pub mod NavLaws
pub mod Passing
pub mod FillLemmas
pub mod CountLemmas
pub mod ChildLemmas
pub mod SearchLemmas
pub mod ChildrenOf
pub mod PassingOne
