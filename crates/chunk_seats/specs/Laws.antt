-- Laws of the definitions, for the proofs of the crates above.
pub mod Counted
pub mod Dealing
pub mod Totals
