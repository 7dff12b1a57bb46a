pub mod Putting
pub mod Covering
pub mod Placing
pub mod Standing
