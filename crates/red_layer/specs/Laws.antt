-- The laws of every list of RedundancyStep steps from the opening.
use Rattle.std.specs.Prelude.{◌≡◌, ℕ, ◌≤◌, ◌↔◌, List, [], ◌∷◌, ◌++◌, length}
use Rattle.std.specs.List.{AllByRecursion}
use Rattle.octets.specs.Octets.{AreOctets}
use Rattle.red_layer.specs.pdu.RedText.{RedText}
use Rattle.red_layer.specs.Parts.{Part}
use Rattle.red_layer.specs.Redundancy.{Receiver, Input, Datagram, new_receiver, parts_passed, after}
use Rattle.red_layer.specs.Service.{Service, AreAmong, arrivals_of, arrivals, moments, parts_passed_along, after_along}
use Rattle.red_layer.specs.Masking.{IsFirstMissing, first_missing, QNear, no_wait, NoDeadlineFalls, first_parts}

-- a datagram makes a part arrive if and only if it is the encoding of that number and payload
abbrev pub ArrivalLaw : Type 0
ArrivalLaw = (octets : List ℕ) (now seq : ℕ) (upper : List ℕ) → AreOctets octets
    → (RedText seq upper octets ↔ (arrivals_of (Datagram octets now) ≡ (seq, upper) ∷ []))

-- the payload that arrives with bytes consists of bytes
abbrev pub PartsLaw : Type 0
PartsLaw = (octets : List ℕ) (now : ℕ) → AreOctets octets
    → AllByRecursion (λ (p : Part). AreOctets p.1) (arrivals_of (Datagram octets now))

-- the parts passed up have strictly rising numbers, and each has arrived by its moment
abbrev pub ServiceLaw : Type 0
ServiceLaw = (q t_seq : ℕ) (inputs : List Input) → Service (moments inputs (new_receiver q t_seq))

-- Masking: if arrivals are near and no deadline falls, the parts passed up are the first part of each number below the
-- first missing one, in order
abbrev pub Masking : Type 0
Masking = (q t_seq : ℕ) (inputs : List Input) → QNear q [] inputs → NoDeadlineFalls t_seq no_wait inputs
    → parts_passed_along inputs (new_receiver q t_seq) ≡ first_parts (first_missing (arrivals inputs)) (arrivals inputs)

-- `first_missing` is the least number that has not arrived, and no other number is
abbrev pub FirstMissingLaw : Type 0
FirstMissingLaw = (arrived : List Part) → IsFirstMissing arrived (first_missing arrived)
    × ((m : ℕ) → IsFirstMissing arrived m → m ≡ first_missing arrived)

-- at most q parts are deferred
abbrev pub BoundedLaw : Type 0
BoundedLaw = (q t_seq : ℕ) (inputs : List Input) → length (after_along inputs (new_receiver q t_seq)).waiting ≤ q

-- each part that a step passes up or defers was deferred before or arrived with it, for any receiver
abbrev pub OriginLaw : Type 0
OriginLaw = (e : Input) (r : Receiver) → AreAmong (parts_passed e r) (r.waiting ++ arrivals_of e)
    × AreAmong (after e r).waiting (r.waiting ++ arrivals_of e)

-- one more input at the end of a list takes the state one step further and appends the parts that this step passes up
abbrev pub OneMoreLaw : Type 0
OneMoreLaw = (es : List Input) (e : Input) (r : Receiver) → (after_along (es ++ e ∷ []) r ≡ after e (after_along es r))
    × (parts_passed_along (es ++ e ∷ []) r ≡ parts_passed_along es r ++ parts_passed e (after_along es r))
