pub mod Table
pub mod Index
pub mod TableLending
pub mod Stored
