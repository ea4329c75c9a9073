-- Units with the indices of the PDUs that carry them: the ring of unconfirmed units, derived from the PDUs made.
use Rattle.std.specs.Prelude.{◌≡◌, ℕ, suc, ◌+◌, ◌-◌, Bool, true, false, List, [], ◌∷◌, ◌++◌, length, take, drop, if◌then◌else◌}
use Rattle.safe_pdu.specs.declared.Kind.{Kind}
use Rattle.safe_pdu.specs.declared.Kind.TheVariants.{RetrResp, Data, RetrData}
use Rattle.safe_machine.specs.retrans.Units.{Numbered, above, renumber_units, octets_of}
use Rattle.safe_machine.specs.Made.{Made}
use Rattle.safe_machine.specs.State.{State, unconfirmed}

-- The run after a PDU with this index, each unit with the index of its carrier.
abbrev pub after_at : Kind → List ℕ → ℕ → List Numbered → List Numbered
after_at RetrResp body index run = []
after_at Data body index run = run ++ record { number = index; octets = body } ∷ []
after_at RetrData body index run = run ++ record { number = index; octets = body } ∷ []
after_at _ body index run = run

-- The run of a list of PDUs, the first with this index.
abbrev pub carried_at : ℕ → List Numbered → List Made → List Numbered
carried_at index run [] = run
carried_at index run (m ∷ ms) = carried_at (index + 1) (after_at m.pdu.kind m.pdu.body index run) ms

-- The ring of an end: the units that PDUs after the last one confirmed carry.
abbrev pub ring_of : State → List Numbered
ring_of s = carried_at (s.confirmed + 1) [] (drop (s.confirmed + 1) s.made)

-- The PDU is a RetrData.
abbrev pub is_resent : Kind → Bool
is_resent RetrData = true
is_resent _ = false

-- How many RetrData a list begins with.
abbrev pub count_resent : List Made → ℕ
count_resent [] = 0
count_resent (m ∷ ms) = if is_resent m.pdu.kind then suc (count_resent ms) else 0

-- The last n units, carried again by the PDUs from this index on.
abbrev pub carried_again : ℕ → ℕ → List Numbered → List Numbered
carried_again n index cs = take (length cs - n) cs ++ renumber_units index (octets_of (drop (length cs - n) cs))

-- A Data carries a new unit. The n RetrData directly after a RetrResp carry the last n units again, in order.
abbrev pub after_carrier : Kind → List ℕ → ℕ → ℕ → List Numbered → List Numbered
after_carrier Data body index n cs = cs ++ record { number = index; octets = body } ∷ []
after_carrier RetrResp body index n cs = carried_again n (index + 1) cs
after_carrier _ body index n cs = cs

-- All units of a list of PDUs, each with the index of the last PDU that carries it.
abbrev pub carriers_from : ℕ → List Numbered → List Made → List Numbered
carriers_from index cs [] = cs
carriers_from index cs (m ∷ ms) =
    carriers_from (index + 1) (after_carrier m.pdu.kind m.pdu.body index (count_resent ms) cs) ms

-- All units of an end, each with the index of its carrier.
abbrev pub carriers : List Made → List Numbered
carriers ms = carriers_from 0 [] ms

-- The units whose carrier has an index above that of the last own PDU confirmed.
abbrev pub by_carriers : State → List (List ℕ)
by_carriers s = octets_of (above s.confirmed (carriers s.made))

-- The units in the ring of a state are its unconfirmed units.
abbrev pub RingLaw : Type 0
RingLaw = (s : State) → octets_of (ring_of s) ≡ unconfirmed s
