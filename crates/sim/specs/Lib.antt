pub mod Status
pub mod LabelText
pub mod MadePdus
pub mod MadePdusView
pub mod Ledger
pub mod LedgerView
