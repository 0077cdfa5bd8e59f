mod ElementLemmas
mod Worked
mod CanonicalGroups
mod CanonicalLengths
mod CanonicalNumbers
mod CanonicalValues
mod CanonicalNames
pub mod GrammarElements
pub mod GrammarNames
pub mod GrammarValues
mod AcceptedNames
pub mod PositionalLemmas
