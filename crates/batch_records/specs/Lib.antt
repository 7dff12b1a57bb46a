pub mod Batch
pub mod Answering
