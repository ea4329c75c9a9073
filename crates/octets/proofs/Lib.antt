pub mod Fields
pub mod Steps
pub mod Choices
pub mod ByIndex
