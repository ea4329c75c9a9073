pub mod Ranks
pub mod WaySums
