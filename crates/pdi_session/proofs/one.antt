-- One session, row by row of its tables and over every list of events.
pub mod TableLemmas
pub mod Growth
pub mod Rows
pub mod RowLaws
pub mod AddedTelegrams
pub mod ItemLists
pub mod Shapes
pub mod IlSteps
pub mod FeSteps
pub mod Queues
pub mod OwnEarly
pub mod Sides
pub mod Over
pub mod Agreements
