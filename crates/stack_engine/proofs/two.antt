-- What holds of both ends over every genuine list of events: the headline, freshness, confirmed is taken.
pub mod Machines
pub mod Worlds
pub mod JointSessions
pub mod AllJudged
pub mod PairPromises
