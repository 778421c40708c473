pub mod Laid
pub mod Judged
pub mod Words
pub mod Bursts
pub mod Few
