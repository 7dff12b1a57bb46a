pub mod WideAnswers
pub mod OneAnswer
pub mod Told
pub mod Leaving
pub mod OnePiece
pub mod Outlining
pub mod Listing
pub mod Growing
