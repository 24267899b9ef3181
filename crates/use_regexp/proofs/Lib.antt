pub mod CoercionLemmas
pub mod FlagLists
pub mod PairLemmas
pub mod TemplateLemmas
pub mod FoundStands
pub mod TurnLemmas
pub mod Replaced
pub mod SplitLemmas
