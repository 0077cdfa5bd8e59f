mod PlaceLemmas
mod EditLemmas
mod FollowLemmas
pub mod ReversedLemmas
