pub mod Burst
pub mod Refusals
pub mod Answers
pub mod Bursts
