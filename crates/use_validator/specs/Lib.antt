pub mod Judge
pub mod Outcomes
pub mod Patterns
pub mod Pointer
pub mod Values
