pub mod Placing
pub mod Judging
pub mod Faulty
pub mod Spelled
