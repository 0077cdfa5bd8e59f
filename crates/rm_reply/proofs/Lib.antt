pub mod NameLemmas
pub mod AnswersLemmas
pub mod BulkLemmas
pub mod PlaceLemmas
pub mod SomeAnswers
pub mod ReplyLemmas
pub mod SetLemmas
pub mod Verdicts
pub mod OneReply
pub mod Granted
pub mod EveryReply
pub mod ReadLemmas
mod Examples
