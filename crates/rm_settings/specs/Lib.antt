pub mod Communities
pub mod Interfaces
