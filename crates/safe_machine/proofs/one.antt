-- What one machine does, for any input.
pub mod Effects
pub mod Lists
pub mod DecisionFits
pub mod TurnSteps
pub mod Runs
pub mod DecisionCounts
pub mod Carriers
pub mod Kept
pub mod Ahead
pub mod StepLemmas
pub mod SameSettings
