pub mod Kept
pub mod Bins
pub mod AtHand
pub mod Three
pub mod Made
pub mod Examples
