-- What contracts see of an end: its value, the state that it represents, and what a call of it does.
use Rattle.std.specs.Prelude.{◌≡◌, ◌-◌, ℕ, length}
use Rattle.pdi_session.specs.SessionStep.{Item}
use Rattle.channels.specs.ChannelHistory.{ChannelHistory}
use Rattle.stack_end.specs.declared.layers.Layers.{Layers}
use Rattle.stack_end.specs.declared.statistics.DatagramCounts.{DatagramCounts}
use Rattle.stack_end.specs.declared.statistics.Statistics.{Statistics}
use Rattle.stack_end.specs.Ends.{EndState}
use Rattle.stack_end.specs.Fields.{LayersRepresent, inside_of}
use Rattle.stack_end.specs.Turns.{Inside, Turn, CarriesOut, CarriesOutAlone}

-- an end over channels C, with memory of allocator A
pub record EndValue (C A : Type 0) : Type 0 where
  pub layers : Layers C A  -- the layers of the end, with its channels
  pub time : ℕ  -- of the last accepted call, in milliseconds
  pub receptions : DatagramCounts  -- what was counted of the datagrams that came

-- the channels of an end
abbrev pub channels_of : {C A : Type 0} → EndValue C A → C
channels_of v = v.layers.upper.channels

-- what the end keeps of its layers, without the channels
abbrev pub inside : {C A : Type 0} → EndValue C A → Inside
inside v = inside_of v.layers

-- all that the end has counted; confirmed are the units made that are not unconfirmed
abbrev pub statistics_of : {C A : Type 0} → EndValue C A → Statistics
statistics_of v =
    let u = (inside v).upper in
    record {
      channels = v.receptions.channels;
      expired_deferrals = v.receptions.expired_deferrals;
      parts = u.parts;
      made = u.made;
      confirmed = u.made.units - length u.machine.ring;
    }

-- a call takes this turn: the end changes by it, its datagrams are sent or counted as failed, and the taker gets what
-- it delivers
abbrev pub EndTakesTurn : {C A T : Type 0} → (C → ChannelHistory) → (T → Item → T → Type 0) → (Inside → Turn Inside)
    → EndValue C A → T → EndValue C A → T → Type 0
EndTakesTurn told takes turn v before w after =
    CarriesOut takes (turn (inside v)) (told (channels_of v)) before (inside w) (told (channels_of w)) after

-- a call takes this turn and delivers nothing
abbrev pub EndTakesTurnAlone : {C A : Type 0} → (C → ChannelHistory) → (Inside → Turn Inside) → EndValue C A
    → EndValue C A → Type 0
EndTakesTurnAlone told turn v w =
    CarriesOutAlone (turn (inside v)) (told (channels_of v)) (inside w) (told (channels_of w))

-- the end, over channels that show this of themselves, represents the state
pub record EndRepresents {C A : Type 0} (told : C → ChannelHistory) (v : EndValue C A) (x : EndState) : Type 0 where
  pub both : LayersRepresent (inside v) x  -- its layers represent those of the state
  pub time : v.time ≡ x.time  -- it has the time of the state
