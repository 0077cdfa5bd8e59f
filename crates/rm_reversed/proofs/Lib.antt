pub mod KeyLemmas
pub mod MentionLemmas
pub mod EventLemmas
pub mod RowLemmas
pub mod StandingLemmas
pub mod SideLemmas
