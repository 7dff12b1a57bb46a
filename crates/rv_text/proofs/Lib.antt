pub mod Cuts
pub mod Runs
pub mod Numerals
pub mod Rows
pub mod ReadAgain
pub mod Listed
pub mod Exact
pub mod Steps
