mod SearchLemmas
pub mod StartLemmas
pub mod Finds
pub mod ReadOnly
pub mod Dues
mod Listing
pub mod Leasts
