pub mod Written
pub mod Reading
pub mod Assembled
pub mod FaultLines
