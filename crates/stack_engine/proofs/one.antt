-- What one end keeps, call by call, for any input.
pub mod Sent
pub mod Received
