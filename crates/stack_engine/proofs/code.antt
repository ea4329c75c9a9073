-- What the functions of the crate rely on: what is kept of a pair, and how little one event makes.
pub mod Histories
pub mod Few
pub mod Lasts
pub mod Numbers
