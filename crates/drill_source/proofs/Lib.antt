pub mod Joined
pub mod NextLine
