pub mod SetLemmas
pub mod ThreadLemmas
pub mod RowLemmas
pub mod Chains
pub mod Rings
