pub mod Message
pub mod Spells
pub mod Parse
pub mod Placed
pub mod Reading
pub mod Answers
pub mod Draft
pub mod DraftParts
