pub mod Keys
pub mod Diagnosed
pub mod Laws
