-- What an end keeps, read from its fields; which state that represents; and what a call does to it.
use Rattle.std.specs.Prelude.{◌≡◌, ℕ, ◌+◌, ◌%◌, ◌^◌, ◌≤◌, option_map, length}
use Rattle.pdi_session.specs.SessionStep.{FewWait, Item}
use Rattle.safe_machine.specs.TurnLaws.{HasMade}
use Rattle.safe_machine.specs.View.{StandsFor as MachineStandsFor}
use Rattle.end_settings.specs.EndSettings.{rule_of}
use Rattle.channels.specs.ChannelHistory.{ChannelHistory}
use Rattle.stack_end.specs.Ends.{EndState}
use Rattle.stack_end.specs.declared.upper.UpperLayers.{UpperLayers}
use Rattle.stack_end.specs.declared.layers.Layers.{Layers}
use Rattle.stack_end.specs.Certain.{cap_count}
use Rattle.stack_end.specs.Statistics.{no_made_counts, with_made}
use Rattle.stack_end.specs.Talk.{RepresentsDialogue}
use Rattle.stack_end.specs.Turns.{Fields, Inside, Turn, CarriesOut, CarriesOutAlone}

-- what the code keeps above the redundancy layer
abbrev pub fields_of : {C A : Type 0} → UpperLayers C A → Fields
fields_of u =
    record {
      numbers = u.numbers;
      machine = u.machine;
      session = u.session;
      waiting = u.waiting;
      request = option_map (λ a. a.items) u.request;
      count = u.count;
      max = u.max;
      t_max = u.t_max;
      accepted = u.accepted;
      departed = u.departed;
      made = u.made;
      parts = u.parts;
    }

-- what the code keeps of all layers
abbrev pub inside_of : {C A : Type 0} → Layers C A → Inside
inside_of l = record { red = l.red; upper = fields_of l.upper }

-- the layers above the redundancy layer take this turn: datagrams are sent or counted as failed, and the taker gets
-- what it delivers
abbrev pub UpperTakeTurn : {C A T : Type 0} → (C → ChannelHistory) → (T → Item → T → Type 0) → (Fields → Turn Fields)
    → UpperLayers C A → T → UpperLayers C A → T → Type 0
UpperTakeTurn told takes turn u before w after =
    CarriesOut takes (turn (fields_of u)) (told u.channels) before (fields_of w) (told w.channels) after

-- the layers above the redundancy layer take this turn, which delivers nothing
abbrev pub UpperTakeTurnAlone : {C A : Type 0} → (C → ChannelHistory) → (Fields → Turn Fields) → UpperLayers C A
    → UpperLayers C A → Type 0
UpperTakeTurnAlone told turn u w =
    CarriesOutAlone (turn (fields_of u)) (told u.channels) (fields_of w) (told w.channels)

-- all layers take this turn: datagrams are sent or counted as failed, and the taker gets what it delivers
abbrev pub LayersTakeTurn : {C A T : Type 0} → (C → ChannelHistory) → (T → Item → T → Type 0) → (Inside → Turn Inside)
    → Layers C A → T → Layers C A → T → Type 0
LayersTakeTurn told takes turn l before m after =
    CarriesOut takes (turn (inside_of l)) (told l.upper.channels) before (inside_of m) (told m.upper.channels) after

-- all layers take this turn, which delivers nothing
abbrev pub LayersTakeTurnAlone : {C A : Type 0} → (C → ChannelHistory) → (Inside → Turn Inside) → Layers C A
    → Layers C A → Type 0
LayersTakeTurnAlone told turn l m =
    CarriesOutAlone (turn (inside_of l)) (told l.upper.channels) (inside_of m) (told m.upper.channels)

-- what every call above the redundancy layer keeps, so that the next call of a layer is allowed
pub record KeepsBounds {C A : Type 0} (most : ℕ) (u w : UpperLayers C A) : Type 0 where
  pub same : w.max ≡ u.max  -- how many messages go into one unit
  pub near : w.machine.expected ≤ u.machine.expected + most  -- how far the index of the peer's next PDU moves
  -- there is room among the waiting messages for the session's next one
  pub few : FewWait u.session u.waiting → FewWait w.session w.waiting

-- what is kept represents the state, field by field; the redundancy number is the low 32 bits of the index
pub record UpperRepresent (v : Fields) (x : EndState) : Type 0 where
  pub machine : MachineStandsFor v.machine x.machine  -- the machine
  pub has_made : HasMade v.machine  -- if the machine sends units now, it has made the PDU last confirmed
  pub speaks : RepresentsDialogue v.session v.waiting x.session  -- the session and the waiting messages
  pub request : v.request ≡ x.request  -- the accepted ConnReq
  pub numbers : v.numbers ≡ length x.machine.made % 2 ^ 32  -- the next redundancy number
  pub count : v.count ≡ x.settings.channels  -- the number of channels
  pub max : v.max ≡ x.settings.n_maxpacket  -- how many messages go into one unit
  pub accepted : v.accepted ≡ cap_count (length x.session.history.put)  -- how many telegrams were put
  pub made : v.made ≡ with_made x.machine.made no_made_counts  -- the counts of the PDUs made
  pub rule : x.machine.settings.rule ≡ rule_of x.settings  -- the machine uses the safety code of the settings
  pub t_max : v.t_max ≡ x.machine.settings.t_max  -- T_max is that of the machine

-- what is kept of all layers represents the state
pub record LayersRepresent (v : Inside) (x : EndState) : Type 0 where
  pub red : v.red ≡ x.red  -- the redundancy layer is equal
  pub upper : UpperRepresent v.upper x  -- the layers above represent the state
