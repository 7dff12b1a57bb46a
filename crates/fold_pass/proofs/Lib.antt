pub mod Rounding
pub mod Literals
pub mod Stayed
pub mod Refolded
pub mod Whole
