-- Laws of the definitions, for the proofs of the crates above.
pub mod Assembling
pub mod Coded
pub mod Cutting
pub mod Lists
