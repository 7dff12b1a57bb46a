pub mod Monoid
pub mod Folds
pub mod Instances
pub mod Lawful
pub mod Laws
