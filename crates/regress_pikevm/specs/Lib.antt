pub mod States
pub mod InsnEffects
