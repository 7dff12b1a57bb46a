pub mod Tables
pub mod ByRow
pub mod FrameNumbers
pub mod PairTexts
pub mod Worked
