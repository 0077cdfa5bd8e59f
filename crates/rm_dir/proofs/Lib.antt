mod Actives
mod Asked
mod Begins
mod Cells
pub mod Counts
mod Examples
mod Found
mod InSlots
mod Judged
pub mod LocalLaws
mod Numbers
mod Rooms
mod Settled
mod Settles
mod SetRows
