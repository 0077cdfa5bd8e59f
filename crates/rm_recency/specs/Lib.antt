pub mod Threads
pub mod Lending
pub mod Chain
