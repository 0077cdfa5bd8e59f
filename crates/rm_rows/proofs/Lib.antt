mod FindLemmas
mod KeptLemmas
mod MoveLemmas
mod TouchLemmas
mod KeyLemmas
pub mod PlaceLemmas
pub mod ValueLemmas
pub mod CreditLemmas
mod RankLemmas
mod WalkLemmas
mod NextLemmas
pub mod Members
pub mod RowsBy
pub mod Steps
