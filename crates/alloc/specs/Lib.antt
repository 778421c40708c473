pub mod Allocation
pub mod Sound
pub mod Band
pub mod Fills
pub mod Leaks
pub mod Stages
