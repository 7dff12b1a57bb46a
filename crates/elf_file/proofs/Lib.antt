pub mod Apart
pub mod Headers
pub mod Written
