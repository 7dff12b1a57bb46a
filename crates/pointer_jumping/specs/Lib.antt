pub mod Climbs
pub mod Jumps
