pub mod NameLemmas
pub mod CountLemmas
pub mod TeleLemmas
pub mod WrittenLemmas
pub mod KnownLemmas
pub mod RingLemmas
pub mod PackLemmas
pub mod UnitLemmas
mod UnitSizes
pub mod one
pub mod two
