pub mod InForce
pub mod Places
