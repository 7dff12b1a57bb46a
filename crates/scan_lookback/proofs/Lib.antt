pub mod Posting
pub mod Before
pub mod Working
pub mod Placing
pub mod Filling
pub mod Naming
pub mod Totals
mod OneWorker
mod TwoLoads
