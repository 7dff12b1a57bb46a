-- The files of this folder.
pub mod Taken
pub mod Settles
pub mod Alone
pub mod Nearest
pub mod Searched
pub mod Cutoff
