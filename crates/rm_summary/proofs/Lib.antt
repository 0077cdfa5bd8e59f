pub mod CountLemmas
pub mod ReadLemmas
pub mod WriteLemmas
pub mod EndLemmas
