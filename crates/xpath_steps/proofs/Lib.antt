pub mod StepLemmas
pub mod EndLemmas
pub mod AboveLemmas
pub mod MergeLemmas
pub mod ParentLemmas
pub mod ForwardLemmas
pub mod EarlierLemmas
