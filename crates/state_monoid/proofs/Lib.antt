pub mod Exploration
pub mod Searching
pub mod Joining
pub mod Complete
pub mod Counting
