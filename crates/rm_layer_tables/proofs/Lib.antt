pub mod PathLemmas
pub mod OnLemmas
pub mod TurnLemmas
pub mod PlaceLemmas
pub mod WalkLemmas
pub mod SoundLemmas
