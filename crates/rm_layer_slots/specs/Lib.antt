pub mod On
pub mod Settled
