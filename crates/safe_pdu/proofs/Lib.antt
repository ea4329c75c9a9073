pub mod SafeLemmas
pub mod ReadByField
pub mod PremiseTest
pub mod Codes
