pub mod Slots
pub mod Pools
pub mod Each
pub mod Follow
pub mod Lending
pub mod Room
