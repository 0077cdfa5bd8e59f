pub mod Ethernet
pub mod Datagram
pub mod Facts
