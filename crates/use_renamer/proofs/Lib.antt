pub mod Found
pub mod Safe
