-- The premise genuine, first form, event by event: what the promises suppose of the datagrams that come.
use Rattle.std.specs.Prelude.{ℕ, ◌↔◌, ◌^◌, ◌≡◌, ◌<◌, ◌==◌, ◌&&◌, not, Bool, true, false, Option, Some, None, List, [], ◌∷◌, drop, Result, Ok, Err}
use Rattle.std.specs.List.{AllByRecursion}
use Rattle.octets.specs.Octets.{AreOctets}
use Rattle.red_layer.specs.declared.pdu.RedFault.{RedFault}
use Rattle.red_layer.specs.Parts.{Part}
use Rattle.red_layer.specs.Redundancy.{Input, Datagram, Tick as RedTick, decoded, parts_passed}
use Rattle.red_layer.specs.Service.{arrivals_of}
use Rattle.safe_pdu.specs.SafeText.{code_octets}
use Rattle.safe_pdu.specs.Places.{is_asked}
use Rattle.safe_machine.specs.World.{Side}
use Rattle.safe_machine.specs.World.Side.{Il, Fe}
use Rattle.end_settings.specs.EndSettings.{rule_of}
use Rattle.stack_end.specs.Ends.{EndState, is_shut, Call}
use Rattle.stack_end.specs.Ends.Call.{Put, Tick, Deliver}
use Rattle.stack_end.specs.Steps.{guard_step, tick_step, part_step, with_input}
use Rattle.stack_engine.specs.Pairs.{World, Event, present, has_made, refusal, apply_event}
use Rattle.stack_engine.specs.Pairs.Event.{Calls}

-- the premise speaks of these bytes at an end: long enough, both identifiers at their places, and a valid code at the
-- end
abbrev pub is_asked_of : EndState → List ℕ → Bool
is_asked_of x octets = is_asked (rule_of x.settings) x.settings.connection.own x.settings.connection.peer octets

-- live: the peer made a PDU of these bytes since the later of both openings, under a code of the same length
abbrev pub is_live : EndState → Option EndState → (dead : ℕ) → List ℕ → Bool
is_live x None dead octets = false
is_live x (Some peer) dead octets =
    (code_octets (rule_of x.settings).length == code_octets (rule_of peer.settings).length)
    && has_made (rule_of peer.settings) octets (drop dead peer.machine.made)

-- a part that an open end is asked about is live
abbrev pub IsGenuine : Option EndState → (dead : ℕ) → EndState → List ℕ → Type 0
IsGenuine peer dead x octets = is_shut x ≡ false → is_asked_of x octets ≡ true → is_live x peer dead octets ≡ true

-- P holds of the part that a call brings, when it comes
abbrev pub AtArrivals : (EndState → List ℕ → Type 0) → Call → EndState → Type 0
AtArrivals P (Deliver channel octets now) x = AllByRecursion (λ (p : Part). P x p.1) (arrivals_of (Datagram octets now))
AtArrivals P _ x = Unit {0}

-- P holds of each part when it goes up, of the state that the earlier ones left
abbrev pub AtParts : (EndState → List ℕ → Type 0) → ℕ → List Part → EndState → Type 0
AtParts P now [] x = Unit {0}
AtParts P now (p ∷ ps) x = P x p.1 × AtParts P now ps (part_step now p.1 x)

-- P holds of each part that goes up at an input of an open end
abbrev pub AtInput : (EndState → List ℕ → Type 0) → ℕ → Input → EndState → Type 0
AtInput P now i x = is_shut x ≡ false → AtParts P now (parts_passed i x.red) (with_input i x)

-- P holds of each part that goes up in a call, after the timeout check or the machine's tick
abbrev pub AtCall : (EndState → List ℕ → Type 0) → Call → EndState → Type 0
AtCall P (Tick now) x = is_shut x ≡ false → AtInput P now (RedTick now) (tick_step now x)
AtCall P (Deliver channel octets now) x = is_shut x ≡ false → AtInput P now (Datagram octets now) (guard_step now x)
AtCall P _ x = Unit {0}

-- each part is genuine when it comes, and when it goes up
abbrev pub GenuineCall : Option EndState → (dead : ℕ) → Call → EndState → Type 0
GenuineCall peer dead c x = AtArrivals (IsGenuine peer dead) c x × AtCall (IsGenuine peer dead) c x

-- P holds of the end, if it was opened
abbrev pub AtOpened : (EndState → Type 0) → Option EndState → Type 0
AtOpened P None = Unit {0}
AtOpened P (Some x) = P x

-- an event is genuine: its parts are, against the PDUs of the present peer that are not dead
abbrev pub GenuineEvent : Event → World → Type 0
GenuineEvent (Calls Il c) w = AtOpened (GenuineCall (present Fe w) w.dead_fe c) (present Il w)
GenuineEvent (Calls Fe c) w = AtOpened (GenuineCall (present Il w) w.dead_il c) (present Fe w)
GenuineEvent _ w = Unit {0}

-- every accepted event of a list is genuine
abbrev pub Genuine : List Event → World → Type 0
Genuine [] w = Unit {0}
Genuine (e ∷ es) w = (refusal e w ≡ None → GenuineEvent e w) × Genuine es (apply_event w e)

-- this part would break the premise at once: the end is asked about it, and it is not live
abbrev pub breaks_by : EndState → Option EndState → ℕ → Result Part RedFault → Bool
breaks_by x peer dead (Ok p) = is_asked_of x p.1 && not (is_live x peer dead p.1)
breaks_by x peer dead (Err fault) = false

-- this datagram would break the premise at once, at an open end
abbrev pub breaks_at : Option EndState → Option EndState → ℕ → List ℕ → Bool
breaks_at None peer dead octets = false
breaks_at (Some x) peer dead octets = not (is_shut x) && breaks_by x peer dead (decoded octets)

-- this datagram, delivered to a side, would break the premise at once
abbrev pub breaks_premise : Side → List ℕ → World → Bool
breaks_premise Il octets w = breaks_at (present Il w) (present Fe w) w.dead_fe octets
breaks_premise Fe octets w = breaks_at (present Fe w) (present Il w) w.dead_il octets

-- the values of an event are of their types: bytes are below 256, a message type has two bytes
abbrev pub IsTyped : Event → Type 0
IsTyped (Calls side (Deliver channel octets now)) = AreOctets octets
IsTyped (Calls side (Put kind payload now)) = kind < 256 ^ 2
IsTyped _ = Unit {0}

-- this of every event of a list
abbrev pub AreTyped : List Event → Type 0
AreTyped es = AllByRecursion IsTyped es

-- a call keeps the first condition of genuine: the one on what arrives
abbrev pub ArrivesGenuine : Side → Call → World → Type 0
ArrivesGenuine Il c w = AtOpened (AtArrivals (IsGenuine (present Fe w) w.dead_fe) c) (present Il w)
ArrivesGenuine Fe c w = AtOpened (AtArrivals (IsGenuine (present Il w) w.dead_il) c) (present Fe w)

-- `breaks_premise` is false if and only if the delivery keeps that condition
abbrev pub BreaksLaw : Type 0
BreaksLaw = (side : Side) (channel : ℕ) (octets : List ℕ) (now : ℕ) (w : World)
    → (breaks_premise side octets w ≡ false) ↔ ArrivesGenuine side (Deliver channel octets now) w
