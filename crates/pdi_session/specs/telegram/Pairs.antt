-- The names of a known pair.
use Rattle.std.specs.Prelude.{◌≡◌, ℕ, List}
use Rattle.pdi_session.specs.declared.telegram.known.KnownPair.{KnownPair}
use Rattle.pdi_session.specs.telegram.Known.{first_name, second_name}

-- the pair has these names, the sender's first
abbrev pub HasNames : KnownPair → List ℕ → List ℕ → Type 0
HasNames pair sender receiver =
    (first_name pair.octets pair.sender ≡ sender) × (second_name pair.octets pair.receiver ≡ receiver)
