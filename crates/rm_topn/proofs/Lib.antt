pub mod Going
mod Hosts
mod Frames
mod Changed
mod Ended
pub mod Dues
mod Planned
mod Assigned
mod Started
pub mod Seconds
pub mod Times
pub mod Counted
pub mod SameCells
mod Examples
