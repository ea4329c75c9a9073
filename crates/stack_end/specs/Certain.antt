-- How many of the telegrams put are confirmed: accepted, and neither waiting nor in an unconfirmed unit.
use Rattle.std.specs.Prelude.{ℕ, ◌+◌, ◌-◌, ◌^◌, min, List, [], ◌∷◌, ◌++◌, length, Result, Ok, Err}
use Rattle.pdi_session.specs.declared.packing.PackFault.{PackFault}
use Rattle.pdi_session.specs.packing.Places.{unit_seen}
use Rattle.pdi_session.specs.declared.telegram.TeleFault.{TeleFault}
use Rattle.pdi_session.specs.telegram.Tele.{Tele}
use Rattle.pdi_session.specs.telegram.Places.{tele_seen}
use Rattle.pdi_session.specs.TelegramCounts.{items_in, items_in_unit}
use Rattle.pdi_session.specs.Laws.{items_of}
use Rattle.pdi_session.specs.SessionStep.{Item}
use Rattle.safe_machine.specs.State.{unconfirmed}
use Rattle.safe_machine.specs.retrans.Units.{octets_of}
use Rattle.stack_end.specs.Ends.{EndState}
use Rattle.stack_end.specs.Turns.{Fields}

-- the messages of a unit that unpacks; of any other, no message
abbrev pub found_messages : Result (List (List ℕ)) PackFault → List (List ℕ)
found_messages (Ok ms) = ms
found_messages (Err fault) = []

-- the messages of units, in order
abbrev pub messages_in : List (List ℕ) → List (List ℕ)
messages_in [] = []
messages_in (u ∷ us) = found_messages (unit_seen u) ++ messages_in us

-- the telegram of a message; of any other bytes, no telegram
abbrev pub found_telegram : Result Tele TeleFault → List Tele
found_telegram (Ok t) = t ∷ []
found_telegram (Err fault) = []

-- the telegrams of messages, in order
abbrev pub telegrams_in : List (List ℕ) → List Tele
telegrams_in [] = []
telegrams_in (m ∷ ms) = found_telegram (tele_seen m) ++ telegrams_in ms

-- the commands or status in waiting messages
abbrev pub items_waiting : EndState → List Item
items_waiting x = items_of (telegrams_in x.session.waiting)

-- the commands or status in unconfirmed units
abbrev pub items_unconfirmed : EndState → List Item
items_unconfirmed x = items_of (telegrams_in (messages_in (unconfirmed x.machine)))

-- a count of 64 bits, which stays at its greatest number
abbrev pub cap_count : ℕ → ℕ
cap_count n = min n (2 ^ 64 - 1)

-- how many telegrams are confirmed in a state: those put, less those that wait and those in unconfirmed units
abbrev pub confirmed_of : EndState → ℕ
confirmed_of x = cap_count (length x.session.history.put) - (length (items_waiting x) + length (items_unconfirmed x))

-- how many commands or status are in units
abbrev pub items_in_units : List (List ℕ) → ℕ
items_in_units [] = 0
items_in_units (u ∷ us) = items_in_unit u + items_in_units us

-- how many telegrams are confirmed, computed from what an end keeps
abbrev pub confirmed_in : Fields → ℕ
confirmed_in v = v.accepted - (items_in v.waiting + items_in_units (octets_of v.machine.ring))
