pub mod AcceptLemmas
pub mod KeptLemmas
mod OneMore
mod Showing
