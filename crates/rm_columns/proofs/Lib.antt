mod Sources
pub mod NumberLemmas
pub mod ColumnLaws
pub mod Named
pub mod RowForms
