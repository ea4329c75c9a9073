pub mod StepsKeep
pub mod Promises
pub mod Genuine
pub mod Sessions
pub mod OneSession
pub mod Refusals
