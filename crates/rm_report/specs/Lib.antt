pub mod RateBase
pub mod Rates
pub mod Ranks
pub mod Copies
pub mod Ranking
pub mod Kept
pub mod Linked
pub mod Measured
