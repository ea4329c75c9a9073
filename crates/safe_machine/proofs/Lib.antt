pub mod RingLemmas
pub mod UnitLemmas
-- A clause with `_` is checked once for each case that the clauses above it leave. If one proof serves every case, the
-- first case still has a clause of its own: without it, nothing would be split into cases.
mod Words
pub mod one
pub mod two
pub mod order
pub mod code
pub mod Rows
pub mod EventsRow
