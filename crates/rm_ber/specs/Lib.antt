pub mod Canonical
pub mod Element
pub mod Grammar
pub mod Positional
pub mod Reading
