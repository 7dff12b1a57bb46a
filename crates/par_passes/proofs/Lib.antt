pub mod Bundling
pub mod Working
pub mod Lowest
pub mod Gluing
pub mod Choosing
