pub mod Parts
pub mod Running
pub mod Events
pub mod Runs
pub mod TableSteps
pub mod Ties
pub mod Worked
