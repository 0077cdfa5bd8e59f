pub mod Order
pub mod WithinLaws
pub mod ReachedLemmas
pub mod LoweredLemmas
