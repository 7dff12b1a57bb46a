pub mod Owned
pub mod Parts
pub mod Lent
pub mod Laws
