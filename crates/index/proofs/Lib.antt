pub mod Walks
pub mod Loop
pub mod Answered
pub mod Entries
pub mod Begins
pub mod Indexes
pub mod Extends
pub mod Meets
