pub mod FillingLemmas
pub mod WindowLemmas
