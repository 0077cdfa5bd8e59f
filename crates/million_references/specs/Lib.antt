pub mod Times
pub mod Load
pub mod Loaded
