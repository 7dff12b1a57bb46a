pub mod Ranges
pub mod Lists
pub mod Cutting
pub mod Joining
pub mod Together
pub mod Summed
