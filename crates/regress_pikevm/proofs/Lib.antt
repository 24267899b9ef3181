pub mod InsnFetchLemmas
pub mod ExecutorTurnLemmas
pub mod InsnEffectLemmas
