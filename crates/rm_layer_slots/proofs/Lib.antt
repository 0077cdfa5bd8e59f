pub mod NamedLemmas
pub mod OnLemmas
pub mod SteadyLemmas
pub mod ApartLemmas
pub mod FillLemmas
pub mod SettledLemmas
pub mod MovedLemmas
pub mod SideOn
