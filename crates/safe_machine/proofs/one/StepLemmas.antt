-- Lemmas on the steps of a machine, under the name that other crates use.
pub use Rattle.safe_machine.proofs.one.Ahead.{made_law_holds}
