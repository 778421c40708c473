pub mod Freely
pub mod Setting
pub mod OneField
