pub mod PutLemmas
pub mod BacklogLemmas
pub mod Fields
pub mod Dates
pub mod NextLines
