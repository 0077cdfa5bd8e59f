mod RowFacts
mod Steps
mod Samples
mod Taken
pub mod NextDue
mod AfterSets
mod Changes
mod Judged
mod Cells
pub mod Intervals
pub mod Sums
mod Pace
mod Following
mod Watching
pub mod Dues
pub mod ShownRows
