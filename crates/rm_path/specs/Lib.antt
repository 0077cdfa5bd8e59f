pub mod Identifier
pub mod Layers
pub mod Order
pub mod Slots
