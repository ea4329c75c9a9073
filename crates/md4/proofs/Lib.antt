pub mod Bits
pub mod Blocks
pub mod DigestLemmas
pub mod Pieces
pub mod Whole
