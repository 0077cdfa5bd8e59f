pub mod LineLemmas
pub mod FileLemmas
pub mod Steps
pub mod EachLineLemmas
pub mod DecimalLemmas
mod Examples
