-- Laws of the definitions, for the proofs of the crates above.
pub mod Among
pub mod Earliest
pub mod Least
