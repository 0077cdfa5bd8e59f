pub mod AddressPairs
pub mod PairLaws
pub mod PairCounts
