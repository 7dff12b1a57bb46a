pub mod Scattered
pub mod Starts
pub mod Rule
pub mod Held
pub mod Worked
pub mod Teams
