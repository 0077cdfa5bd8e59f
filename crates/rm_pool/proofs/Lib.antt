pub mod Lent
pub mod Spares
pub mod Follows
pub mod Each
pub mod Least
pub mod Numbered
pub mod RoomLemmas
