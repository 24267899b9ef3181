pub mod Counts
pub mod Decided
pub mod Escapes
pub mod Judged
pub mod Kept
pub mod Places
