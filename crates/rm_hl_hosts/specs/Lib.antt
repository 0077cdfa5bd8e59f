pub mod Columns
pub mod Control
pub mod Hosts
pub mod HostCells
pub mod HostLaws
pub mod Collection
pub mod SameCells
pub mod Lawful
