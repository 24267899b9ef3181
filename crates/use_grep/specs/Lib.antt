pub mod Joining
pub mod Local
pub mod Nearby
pub mod Selecting
