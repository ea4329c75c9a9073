-- Counting the commands and status in messages and units.
use Rattle.std.specs.Prelude.{ℕ, ◌+◌, Bool, false, not, if◌then◌else◌, List, [], ◌∷◌, Result, Ok, Err}
use Rattle.pdi_session.specs.declared.packing.PackFault.{PackFault}
use Rattle.pdi_session.specs.packing.Places.{unit_seen}
use Rattle.pdi_session.specs.declared.telegram.TeleFault.{TeleFault}
use Rattle.pdi_session.specs.telegram.Tele.{Tele}
use Rattle.pdi_session.specs.telegram.Places.{tele_seen}
use Rattle.pdi_session.specs.Telegrams.{is_reserved}

-- true for a telegram whose message type is not of the establishment; false for bytes that are not a telegram
abbrev pub is_item : Result Tele TeleFault → Bool
is_item (Ok t) = not (is_reserved t.kind)
is_item (Err fault) = false

-- the number of messages that are commands or status
abbrev pub items_in : List (List ℕ) → ℕ
items_in [] = 0
items_in (m ∷ ms) = (if is_item (tele_seen m) then 1 else 0) + items_in ms

-- the number of commands or status in a unit that was read; 0 if the bytes are not a unit
abbrev pub items_read : Result (List (List ℕ)) PackFault → ℕ
items_read (Ok ms) = items_in ms
items_read (Err fault) = 0

-- the number of commands or status in the bytes of a unit
abbrev pub items_in_unit : List ℕ → ℕ
items_in_unit octets = items_read (unit_seen octets)
