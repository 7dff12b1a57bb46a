pub mod Rounds
pub mod Staying
pub mod Folded
