-- The list of unconfirmed units.
pub mod Units
