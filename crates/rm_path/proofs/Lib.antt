mod Count
mod Examples
pub mod Identifiers
mod OrderLemmas
mod Searches
pub mod SlotLemmas
