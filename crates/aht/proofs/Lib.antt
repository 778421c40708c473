pub mod Walking
pub mod Range
pub mod Tags
pub mod GainWords
pub mod Active
pub mod Whole
pub mod EqualBits
pub mod Examples
