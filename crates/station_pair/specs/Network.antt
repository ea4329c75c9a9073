-- One session over a network that may lose, repeat, delay and reorder datagrams: conditions that both programs can
-- observe.
use Rattle.std.specs.Prelude.{◌≡◌, ℕ, ◌⊎◌, Ok, List, [], ◌∷◌}
use Rattle.channels.specs.ChannelHistory.{SentDatagram}
use Rattle.end_settings.specs.ConfigValue.{settings_of}
use Rattle.end_settings.specs.EndSettings.{rule_of}
use Rattle.end_settings.specs.declared.EndConfig.{EndConfig}
use Rattle.end_settings.specs.declared.Side.{Side}
use Rattle.end_settings.specs.declared.Side.TheVariants.{Interlocking, FieldElement}
use Rattle.end_for_callers.specs.Calls.{StationValue}
use Rattle.end_for_callers.specs.declared.station.Rooms.{Rooms}
use Rattle.safe_pdu.specs.SafeText.{code_octets}
use Rattle.stack_end.specs.Ends.{Call}
use Rattle.stack_end.specs.Ends.Call.{Deliver}
use Rattle.stack_engine.specs.Pairs.{start}
use Rattle.stack_engine.specs.Premise.{Genuine}
use Rattle.station_pair.specs.Steps.{AreSteps, Called, Held, Opens, Programs, Step, events_of, stations_of, held_after, new_held, no_programs}

-- the other side
abbrev pub other : Side → Side
other Interlocking = FieldElement
other FieldElement = Interlocking

-- `next_datagram` returned these bytes
abbrev pub IsGiven : List ℕ → List SentDatagram → Type 0
IsGiven octets [] = ⊥
IsGiven octets (x ∷ xs) = (octets ≡ x.1) ⊎ IsGiven octets xs

-- `next_datagram` of the present station returned these bytes
abbrev pub GivenBy : List ℕ → List Held → Type 0
GivenBy octets [] = ⊥
GivenBy octets (h ∷ before) = IsGiven octets h.pulled

-- a datagram that arrives was returned by `next_datagram` of the other side before, whole; on any channel, any number
-- of times
abbrev pub ArrivesCarried : Call → List Held → Type 0
ArrivesCarried (Deliver channel octets now) hs = GivenBy octets hs
ArrivesCarried _ hs = Unit {0}

-- a step keeps this, and opens no side again
abbrev pub IsCarried : Step → Programs → Type 0
IsCarried (Called side c (Ok o) t) p = ArrivesCarried c (stations_of (other side) p)
IsCarried (Opens side config first_sn rooms now (Ok s)) p = ⊥
IsCarried _ p = Unit {0}

-- every step of a list does
abbrev pub AllCarried : List Step → Programs → Type 0
AllCarried [] p = Unit {0}
AllCarried (x ∷ xs) p = IsCarried x p × AllCarried xs (held_after x p)

-- an opening of a side
pub record StationOpening : Type 0 where
  pub config : EndConfig  -- the settings
  pub first_sn : ℕ  -- the first sequence number
  pub rooms : Rooms  -- how much the queues hold
  pub now : ℕ  -- the time
  pub station : StationValue  -- the station that was opened

-- the opening as a step
abbrev pub opens_as : Side → StationOpening → Step
opens_as side o = Opens side o.config o.first_sn o.rooms o.now (Ok o.station)

-- the field element is opened, then the interlocking, then both are called in any order
abbrev pub session : StationOpening → StationOpening → List Step → List Step
session fe il steps = opens_as FieldElement fe ∷ opens_as Interlocking il ∷ steps

-- both programs after these openings
abbrev pub both_open : StationOpening → StationOpening → Programs
both_open fe il = record { ils = new_held il.station ∷ []; fes = new_held fe.station ∷ [] }

-- both have the same code length
abbrev pub SameCode : StationOpening → StationOpening → Type 0
SameCode fe il =
    code_octets (rule_of (settings_of fe.config)).length ≡ code_octets (rule_of (settings_of il.config)).length

-- over such a network the premise genuine holds
abbrev pub NetworkLaw : Type 0
NetworkLaw =
    (fe il : StationOpening) (steps : List Step) → AreSteps (session fe il steps) no_programs → SameCode fe il
    → AllCarried steps (both_open fe il)
    → Genuine (events_of (session fe il steps)) start
