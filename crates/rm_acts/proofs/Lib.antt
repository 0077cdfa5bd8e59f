pub mod CrossingLaws
mod CrossingExamples
mod AlarmExamples
pub mod ShownLaws
pub mod RecurringLaws
mod FilterExamples
mod ExampleActs
mod ActExamples
mod ChannelExamples
mod BufferExamples
mod NoticeExamples
mod ExampleLaws
pub mod TurnedLaws
pub mod RowsLaws
pub mod SeenLaws
pub mod DueLaws
pub mod NextDueLaws
