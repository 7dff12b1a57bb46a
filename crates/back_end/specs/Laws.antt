-- Laws of the definitions, for the proofs of the crates above.
pub mod Analyzed
pub mod HandedOn
