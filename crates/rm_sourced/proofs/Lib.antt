mod Leasts
pub mod Counting
pub mod Ranks
pub mod ExampleFrames
