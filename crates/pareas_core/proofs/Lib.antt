pub mod Appending
pub mod Batched
mod Dealt
mod Gathering
mod Meeting
mod Answering
pub mod MemoryReads
pub mod FaultLine
pub mod Rest
mod Printing
