pub mod Exponents
pub mod Bytes
pub mod Made
pub mod AtHand
pub mod Sound
