pub mod UnitText
pub mod Places
pub mod FaultNames
pub mod Ring
