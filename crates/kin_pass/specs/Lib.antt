pub mod Kin
pub mod Lists
pub mod Dealt
pub mod Sums
