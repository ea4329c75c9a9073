-- Lists of events that are computed, and worlds in which only one clause of a promise is false.
pub mod RowSettings
pub mod FaithfulTests
pub mod FaithfulRow
pub mod GenuineRow
pub mod RoughRow
pub mod FarRow
pub mod Drops
pub mod Forgery
pub mod Instances
pub mod LossInstances
