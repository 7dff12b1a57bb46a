pub mod Columns
pub mod Nodes
pub mod Levels
pub mod Worked
