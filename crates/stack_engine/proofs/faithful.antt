-- Faithful lists: machines receive each other's PDUs in order, and nothing is lost.
pub mod Order
pub mod Faithfuls
pub mod NothingLost
