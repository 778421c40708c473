pub mod Numbered
pub mod Judging
pub mod Profiled
pub mod Few
