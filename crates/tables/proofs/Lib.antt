pub mod Rules
pub mod Rule
