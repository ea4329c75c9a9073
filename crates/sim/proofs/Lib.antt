pub mod LedgerLemmas
pub mod MadePdusLemmas
