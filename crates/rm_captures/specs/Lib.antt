pub mod Merge
pub mod Rounds
pub mod Reading
pub mod Left
pub mod Lending
pub mod Told
