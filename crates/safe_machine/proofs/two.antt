-- What holds for two machines over every list of events, however often either is opened.
pub mod Invariant
pub mod Lone
pub mod Status
pub mod Worlds
pub mod Times
pub mod Freshness
