-- What holds for two machines that receive the peer's PDUs one by one, in the order in which they were made.
pub mod OrderArrivals
pub mod OrderLaw
