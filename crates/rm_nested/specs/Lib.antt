pub mod Nested
pub mod InnerTable
pub mod NumberedRows
