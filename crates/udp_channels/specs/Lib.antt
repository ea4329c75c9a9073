pub mod Sockets
pub mod Paths
pub mod Addresses
