pub mod Files
pub mod Moments
pub mod Keeping
