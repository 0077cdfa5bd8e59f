pub mod Walks
pub mod Finite
pub mod NumberedTables
