pub mod HexLines
pub mod MessageLemmas
