pub mod Words
pub mod Again
pub mod Pushed
