pub mod Halving
pub mod Passing
pub mod Climbing
pub mod Rising
pub mod Answering
