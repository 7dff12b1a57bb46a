-- The files of this folder.
pub mod Looking
pub mod Writing
pub mod Told
pub mod Chained
pub mod Along
pub mod Parts
pub mod Joined
pub mod Starts
pub mod Cutting
pub mod Unique
pub mod Whole
pub mod Answered
pub mod Subtrees
