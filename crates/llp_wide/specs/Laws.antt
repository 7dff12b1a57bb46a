-- Laws of the definitions, for the code and the proofs.
pub mod QueueOrder
