-- Service: the parts passed up have strictly rising numbers and have arrived. This does not depend on queues, sizes and
-- times.
use Rattle.std.specs.Prelude.{◌≡◌, ◌⊎◌, List, [], ◌∷◌, ◌++◌, Result, Ok, Err, ⊤}
use Rattle.red_layer.specs.declared.pdu.RedFault.{RedFault}
use Rattle.red_layer.specs.FiniteMap.{Rises}
use Rattle.red_layer.specs.Parts.{Part}
use Rattle.red_layer.specs.Redundancy.{Receiver, Input, Datagram, Tick, decoded, parts_passed, after}

-- the part of a decoded datagram, or none
abbrev pub part_received : Result Part RedFault → List Part
part_received (Ok p) = p ∷ []
part_received (Err fault) = []

-- the part that arrives with an input: the number and payload of a datagram that is a redundancy PDU
abbrev pub arrivals_of : Input → List Part
arrivals_of (Datagram octets now) = part_received (decoded octets)
arrivals_of (Tick now) = []

-- the parts that arrive with a list of inputs, in order
abbrev pub arrivals : List Input → List Part
arrivals [] = []
arrivals (e ∷ es) = arrivals_of e ++ arrivals es

-- the part is in the list
abbrev pub IsAmong : Part → List Part → Type 0
IsAmong p [] = ⊥
IsAmong p (q ∷ qs) = (p ≡ q) ⊎ IsAmong p qs

-- each part of the first list is in the second
abbrev pub AreAmong : List Part → List Part → Type 0
AreAmong [] qs = ⊤
AreAmong (p ∷ ps) qs = IsAmong p qs × AreAmong ps qs

-- what happens at one input
pub record Moment : Type 0 where
  -- the parts that arrive
  pub came : List Part
  -- the parts passed up
  pub passed : List Part

-- the parts passed up at all moments, in order
abbrev pub parts_passed_in : List Moment → List Part
parts_passed_in [] = []
parts_passed_in (m ∷ ms) = m.passed ++ parts_passed_in ms

-- each part passed up has arrived at its moment or before
abbrev pub HaveArrived : List Part → List Moment → Type 0
HaveArrived before [] = ⊤
HaveArrived before (m ∷ ms) = AreAmong m.passed (before ++ m.came) × HaveArrived (before ++ m.came) ms

-- the service: rising numbers, and only parts that have arrived
pub record Service (ms : List Moment) : Type 0 where
  pub rising : Rises 0 (parts_passed_in ms)
  pub arrived : HaveArrived [] ms

-- the moments of a list of inputs to a receiver
abbrev pub moments : List Input → Receiver → List Moment
moments [] r = []
moments (e ∷ es) r = record { came = arrivals_of e; passed = parts_passed e r } ∷ moments es (after e r)

-- the parts passed up along a list of inputs
abbrev pub parts_passed_along : List Input → Receiver → List Part
parts_passed_along es r = parts_passed_in (moments es r)

-- the receiver after a list of inputs
abbrev pub after_along : List Input → Receiver → Receiver
after_along [] r = r
after_along (e ∷ es) r = after_along es (after e r)
