pub mod Persist
pub mod Order
pub mod Reported
pub mod Gained
pub mod SeenLaws
pub mod Copying
pub mod Walking
pub mod RowLaws
pub mod Standing
pub mod Linking
pub mod Bounds
pub mod Ending
pub mod LinkedLaws
mod Examples
