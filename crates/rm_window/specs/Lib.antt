pub mod Filling
pub mod Window
