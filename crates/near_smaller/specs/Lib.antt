pub mod Nearest
pub mod Levels
pub mod Climbs
