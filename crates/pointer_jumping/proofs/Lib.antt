pub mod Ways
pub mod Jumping
pub mod Settling
