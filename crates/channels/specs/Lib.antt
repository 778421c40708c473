pub mod Coupling
pub mod Strategies
pub mod Sound
