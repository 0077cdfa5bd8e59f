mod Known
mod Askable
pub mod Written
mod Leaving
mod FiringLemmas
mod Ended
mod NotificationExamples
mod SampleLemmas
pub mod NotificationLemmas
mod CountLemmas
mod OrderlyLemmas
mod AdvanceLemmas
mod RepliesOrderly
mod GroupDues
