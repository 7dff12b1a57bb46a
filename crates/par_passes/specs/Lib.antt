pub mod Crews
pub mod Passes
pub mod Least
pub mod Dealt
pub mod Laws
