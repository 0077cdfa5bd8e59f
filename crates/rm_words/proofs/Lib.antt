pub mod CaptureLemmas
pub mod CommandLemmas
pub mod PartLemmas
pub mod SpellLemmas
pub mod WordLemmas
