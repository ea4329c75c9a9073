pub mod Names
pub mod Tele
pub mod TeleText
pub mod Places
pub mod FaultNames
pub mod Known
pub mod Pairs
