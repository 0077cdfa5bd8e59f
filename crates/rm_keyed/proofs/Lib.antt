pub mod Evictions
pub mod EachRow
pub mod Mentions
pub mod MentionLaws
pub mod HeldRows
pub mod Sums
pub mod Found
pub mod ReversedKeys
pub mod Pairs
mod IndexLemmas
pub mod Ranked
pub mod PartCells
pub mod TwoLaws
pub mod SourceLaws
