pub mod ComingLemmas
pub mod EndingLemmas
pub mod MergeLemmas
pub mod NameLemmas
pub mod NextLemmas
mod OrderLemmas
pub mod PassLemmas
pub mod RoundLemmas
mod ToldLemmas
