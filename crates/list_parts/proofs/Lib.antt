pub mod Holding
pub mod Cutting
pub mod Sending
