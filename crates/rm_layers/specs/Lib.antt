pub mod Event
pub mod Network
pub mod Applications
pub mod Upper
pub mod Turning
pub mod Marks
pub mod Capacity
