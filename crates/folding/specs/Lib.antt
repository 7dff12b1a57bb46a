pub mod Folding
pub mod Keeps
pub mod Words
pub mod Complete
pub mod Uses
pub mod Worked
