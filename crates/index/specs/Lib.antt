pub mod Refusals
pub mod Index
pub mod Filled
pub mod Indexes
