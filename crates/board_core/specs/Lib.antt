pub mod State
pub mod Steps
pub mod Schedules
pub mod Sound
pub mod Worked
pub mod Held
pub mod Laws
