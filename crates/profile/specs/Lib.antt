pub mod Rules
pub mod Answers
pub mod Profiled
