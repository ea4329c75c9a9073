-- What a session keeps of the version check, as a value.
use Rattle.pdi_session.specs.declared.Agreement.{Agreement as Kept}
use Rattle.pdi_session.specs.SessionStep.{Agreement}

-- an agreement that a session keeps, without its place in memory
abbrev pub kept_agreement : Kept → Agreement
kept_agreement a = record { version = a.version; checksum = a.checksum.items }
