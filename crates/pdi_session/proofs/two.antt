-- Facts of two sessions that receive each other's queues: the phase law.
pub mod SessionRow
pub mod PhaseLemma
pub mod PhaseFails
pub mod JointSteps
pub mod MatchingSessions
pub mod InStep
