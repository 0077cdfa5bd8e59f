pub mod Names
pub mod Grammar
pub mod Parts
pub mod Scan
pub mod Told
