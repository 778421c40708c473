pub mod Promise
pub mod HeaderAndBlocks
