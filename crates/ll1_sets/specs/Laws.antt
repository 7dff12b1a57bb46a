-- Laws of the definitions, for the proofs of the crates above.
pub mod BehindBounds
pub mod BehindRules
pub mod FollowMarks
pub mod FollowSets
pub mod FormTests
pub mod LeftRecursion
pub mod Ll1
