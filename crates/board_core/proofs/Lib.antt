pub mod Keeps
pub mod Standing
pub mod Bounds
pub mod Playing
