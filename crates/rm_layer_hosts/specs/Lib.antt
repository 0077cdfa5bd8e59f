pub mod Counts
pub mod Gains
