pub mod Text
pub mod Counted
pub mod Ends
