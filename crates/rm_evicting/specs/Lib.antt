pub mod Mention
pub mod Held
pub mod Row
pub mod Stands
pub mod Neighbours
pub mod Octets
