pub mod ErrorStatus
pub mod Oid
pub mod Val
pub mod Contents
pub mod Spellable
