-- Laws of the definitions, for the proofs of the crates above.
pub mod Calling
pub mod Giving
pub mod Marking
pub mod Together
