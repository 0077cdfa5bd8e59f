pub mod Group
pub mod Laws
pub mod Acts
