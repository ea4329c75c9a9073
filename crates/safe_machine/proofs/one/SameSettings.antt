-- Settings stay the same; under the name that other crates use.
pub use Rattle.safe_machine.proofs.one.Kept.{settings_law_holds}
