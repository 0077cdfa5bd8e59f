pub mod FrontLemmas
pub mod FoundLemmas
mod HeadingLemmas
mod KeptLemmas
mod BaseLemmas
pub mod CaptureLemmas
pub mod RecordLaws
pub mod StepLemmas
mod FaultLemmas
mod StopLemmas
pub mod ReadingLemmas
mod Examples
