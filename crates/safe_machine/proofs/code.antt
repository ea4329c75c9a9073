-- Lemmas that the functions of the crate rely on.
pub mod Properties
pub mod Reach
