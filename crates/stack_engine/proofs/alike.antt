-- That both tellings of a promise are one.
pub mod Places
pub mod Closed
pub mod Calls
pub mod Genuines
pub mod Headlines
pub mod Held
pub mod Settleds
pub mod Freshes
pub mod Losses
pub mod Nears
pub mod Faithfuls
pub mod Promised
