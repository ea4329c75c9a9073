-- Definitions for the contracts of functions inside the crate; no promise uses them.
pub mod Allows
pub mod Sound
