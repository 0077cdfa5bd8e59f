pub mod Sources
mod Examples
mod Steps
mod Cells
mod Sums
mod Begins
