pub mod Within
pub mod WalkPlaces
pub mod Lowered
pub mod Numbers
