pub mod Steps
pub mod Stands
pub mod Network
pub mod Law
pub mod Instances
