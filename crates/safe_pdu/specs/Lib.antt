pub mod Pdu
pub mod Bodies
pub mod SafeText
pub mod Places
pub mod Laws
pub mod Names
pub mod LeavingNumbers
